use Rattle.std.proofs.Common.{◌≡◌, ◌*◌, ◌<◌, ◌≤◌, ℕ, length, get_or, pos, refl, sym, ap, ◌∙◌, arith}
use mathlib.Core.Path.{subst}
use Rattle.paths.specs.Arrivals.{lane, Pushed}
use Rattle.paths.proofs.Rows.{length-row_at}
use Rattle.paths.proofs.Lanes.{lane_room, lane-length}
use Rattle.paths.proofs.Tables.{walk_passable}
use Rattle.paths.proofs.Propagating.{going_start, near, onward_row, ended}
use Rattle.paths.proofs.arrivals.propagate_each.Goals as goal

pub loop-p-init : goal.loop-p-init
loop-p-init g c = record { size = refl; past = refl; lanes = λ l h. going_start _ _ _ _ _ }

pub push_each-requires-clause-near : goal.push_each-requires-clause-near
push_each-requires-clause-near g c l m =
    let w = c.args.walk.now in
    let n = w.table.board.vertices in
    let v : c.from-u.result < n = rw c.from-u.ensures (w.rises.vertex c.loop-p.p c.loop-p-test.true).0 in
    let long : length c.row.result.cells.now ≡ n = ap length c.row.ensures.cells ∙ length-row_at n w.table.cells.now c.from-u.result w.table.room v in
    rw (long, c.from-u.ensures) (near (walk_passable w) (c.requires.starts l m) w.chains (c.loop-p.invariant.lanes l m) c.loop-p-test.true)

pub push_each-requires-clause-room : goal.push_each-requires-clause-room
push_each-requires-clause-room g c =
    let w = c.args.walk.now in
    let n = w.table.board.vertices in
    let v : c.from-u.result < n = rw c.from-u.ensures (w.rises.vertex c.loop-p.p c.loop-p-test.true).0 in
    let long : length c.row.result.cells.now ≡ n = ap length c.row.ensures.cells ∙ length-row_at n w.table.cells.now c.from-u.result w.table.room v in
    rw long (omega (arith, c.requires.room, c.loop-p.invariant.size))

pub loop-p-preserved : goal.loop-p-preserved
loop-p-preserved g c =
    let w = c.args.walk.now in
    let n = w.table.board.vertices in
    let v : c.from-u.result < n = rw c.from-u.ensures (w.rises.vertex c.loop-p.p c.loop-p-test.true).0 in
    let long : length c.row.result.cells.now ≡ n = ap length c.row.ensures.cells ∙ length-row_at n w.table.cells.now c.from-u.result w.table.room v in
    let f = c.loop-p.f in
    let f' = c.push_each.new.f in
    let room : n * g.row.LANES ≤ length f = omega (arith, c.requires.room, c.loop-p.invariant.size) in
    let room' : n * g.row.LANES ≤ length f' = omega (arith, c.push_each.auto.f) in
    record {
      size = c.push_each.auto.f ∙ c.loop-p.invariant.size;
      past = rw long at c.push_each.ensures.past ∙ c.loop-p.invariant.past;
      lanes = λ l m. onward_row (walk_passable w) (c.requires.starts l m) w.chains (c.loop-p.invariant.lanes l m) c.loop-p-test.true (lane n l f')
          (lane-length n l f' (lane_room n l g.row.LANES f' m room') ∙ sym (lane-length n l f (lane_room n l g.row.LANES f m room))) c.from-u.result c.row.result.cells.now c.row.result.links.now c.from-u.ensures c.row.ensures.cells c.row.ensures.links
          (subst (λ (k : ℕ). Pushed (length c.row.result.cells.now) c.row.result.cells.now c.row.result.links.now (get_or (lane k l f) c.from-u.result (pos 0)) (lane k l f) (lane k l f')) long (c.push_each.ensures.pushed l m));
    }

pub returns-clause-each_lane : goal.returns-clause-each_lane
returns-clause-each_lane g c l m =
    ended (walk_passable c.args.walk.now) (c.requires.starts l m) c.args.walk.now.chains (c.loop-p.invariant.lanes l m) (omega (arith, (c.loop-p.invariant.lanes l m).upto))
