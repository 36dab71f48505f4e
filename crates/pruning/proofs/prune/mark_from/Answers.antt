use Rattle.std.proofs.Common.{◌≡◌, ◌+◌, ◌*◌, ◌≤◌, ◌<◌, ℕ, List, ℤ, drop, length, sym, ap, subst, ◌∙◌, arith}
use Rattle.paths.specs.declared.board.Board.{Board}
use Rattle.paths.specs.Arrivals.{lane, DelayLanes}
use Rattle.paths.specs.Checked.{Passable}
use Rattle.paths.proofs.Tables.{walk_passable}
use Rattle.paths.proofs.Lanes.{lane_room, lane-length, lanes_start, lanes_part, lanes_turn, lanes_past}
use Rattle.pruning.specs.PruneMarks.{DelaysIn}
use Rattle.pruning.proofs.AliveSweep.{delays_in}
use Rattle.pruning.proofs.Marking.{decider, none_yet, one_more}
use Rattle.pruning.proofs.prune.mark_from.Goals as goal

-- the delays from input i + l, in lane l
module _ (b : Board) (t : List ℤ) (o : List ℕ) (p : Passable b t o) (lanes i l : ℕ) (few : i + lanes ≤ b.inputs) (h : l < lanes) (f f₀ : List ℤ) (room : b.vertices * lanes ≤ length f) (same : length f₀ ≡ length f) where
  inside : b.vertices * l + b.vertices ≤ length f₀
  inside = lane_room b.vertices l lanes f₀ h (omega arith)

  long : length (lane b.vertices l f₀) ≡ b.vertices
  long = lane-length b.vertices l f₀ inside

  lane_delays : DelayLanes b t lanes i f f₀ → DelaysIn b t (i + l) (lane b.vertices l f₀)
  lane_delays d =
      let before : length (lane b.vertices l f) ≡ b.vertices = lane-length b.vertices l f (omega (arith, inside, same)) in
      delays_in p (i + l) (omega arith) (lane b.vertices l f) (lane b.vertices l f₀) (omega arith) (long ∙ sym before) (d l h)

pub loop-l-init : goal.loop-l-init
loop-l-init g c = record {
  lanes = lanes_start _ _ _;
  marked = none_yet c.args.walk.now.table.board.vertices (λ k. decider c.args.walk.now.table.board c.args.walk.now.table.cells.now (c.args.i + k)) c.args.marks.now;
}

pub sweep-requires-clause-from_input : goal.sweep-requires-clause-from_input
sweep-requires-clause-from_input g c =
    let b = c.args.walk.now.table.board in
    let l = c.loop-l.l in
    record {
      input = c.args.i + l;
      delays = subst (DelaysIn b c.args.walk.now.table.cells.now (c.args.i + l)) (sym (lanes_part c.loop-l.invariant.lanes))
          (lane_delays b c.args.walk.now.table.cells.now _ (walk_passable c.args.walk.now) g.row.LANES c.args.i l c.requires.i_bound c.loop-l-test.true c.args.f.now c.delays_from_each.new.f c.requires.f_room c.delays_from_each.auto.f c.delays_from_each.ensures.delay_lanes);
    }

pub loop-l-preserved : goal.loop-l-preserved
loop-l-preserved g c =
    let b = c.args.walk.now.table.board in
    let i = c.args.i in
    let l = c.loop-l.l in
    let f₀ = c.delays_from_each.new.f in
    let room = c.requires.f_room in
    let same = c.delays_from_each.auto.f in
    let L = c.loop-l.invariant.lanes in
    let delays = lane_delays b c.args.walk.now.table.cells.now _ (walk_passable c.args.walk.now) g.row.LANES i l c.requires.i_bound c.loop-l-test.true c.args.f.now f₀ room same c.delays_from_each.ensures.delay_lanes in
    let part = long b c.args.walk.now.table.cells.now _ (walk_passable c.args.walk.now) g.row.LANES i l c.requires.i_bound c.loop-l-test.true c.args.f.now f₀ room same in
    record {
      lanes = lanes_turn L (inside b c.args.walk.now.table.cells.now _ (walk_passable c.args.walk.now) g.row.LANES i l c.requires.i_bound c.loop-l-test.true c.args.f.now f₀ room same) c.sweep.new.f (c.sweep.auto.f ∙ ap length (lanes_part L) ∙ part) tt;
      marked = one_more b.vertices (λ x. decider b c.args.walk.now.table.cells.now (i + x)) c.args.marks.now c.loop-l.marks c.sweep.new.marks l c.loop-l.invariant.marked
          (c.sweep.ensures.swept (i + l) (subst (DelaysIn b c.args.walk.now.table.cells.now (i + l)) (sym (lanes_part L)) delays));
    }

pub returns-clause-past : goal.returns-clause-past
returns-clause-past g c =
    let n = c.args.walk.now.table.board.vertices in
    let e : c.loop-l.l ≡ g.row.LANES = omega arith in
    subst (λ (k : ℕ). drop (n * k) c.loop-l.f ≡ drop (n * k) c.delays_from_each.new.f) e (lanes_past c.loop-l.invariant.lanes) ∙ c.delays_from_each.ensures.past
