use Rattle.std.proofs.Common.{◌≡◌, ◌<◌, ℕ, List, T, length, get_or, pos, ℤ, sym, ap, ◌∙◌, arith}
use mathlib.Core.Path.{subst}
use Rattle.timing.specs.Limits.{absent_wide, fits}
use Rattle.timing.specs.Table.{read_cell}
use Rattle.timing.specs.Delays.{arrival_in}
use Rattle.paths.specs.Arrivals.{reached_limit, lane, Reached, Pushed}
use Rattle.paths.proofs.Lanes.{lane_room, lane-length, lane_cell, lanes_part, lanes_turn, lanes_past}
use Rattle.paths.proofs.Propagating.{reached}
use Rattle.paths.proofs.arrivals.push_each.Goals as goal

pub push-requires : goal.push-requires
push-requires g c =
    let n = length c.args.row.now.cells.now in
    let f = c.args.f.now in
    let u = c.args.u in
    let at : (l : ℕ) → l < g.row.LANES → Reached (get_or c.in-Some.a l (pos 0)) = λ l h.
    let there = c.in-Some.ensures l h in
    reached _ there.1 (subst (λ (z : ℤ). T (fits reached_limit (read_cell absent_wide z))) (lane_cell n l f u c.requires.u_in_bounds ∙ sym there.0) (c.requires.near l h)) in
    (omega (arith, c.requires.few), (c.requires.some, (c.requires.few, (at, c.requires.room))))

pub returns-in-Some-clause-pushed : goal.returns-in-Some-clause-pushed
returns-in-Some-clause-pushed g c l h =
    let n = length c.args.row.now.cells.now in
    let f = c.args.f.now in
    subst (λ (z : ℤ). Pushed n c.args.row.now.cells.now c.args.row.now.links.now z (lane n l f) (lane n l c.push.new.f)) ((c.in-Some.ensures l h).0 ∙ sym (lane_cell n l f c.args.u c.requires.u_in_bounds)) (c.push.ensures.pushed l h)

pub push_from-requires-clause-near : goal.push_from-requires-clause-near
push_from-requires-clause-near g c = subst (λ (x : List ℤ). T (fits reached_limit (arrival_in x c.args.u))) (sym (lanes_part c.loop-l.invariant)) (c.requires.near c.loop-l.l c.loop-l-test.true)

pub loop-l-preserved : goal.loop-l-preserved
loop-l-preserved g c =
    let n = length c.args.row.now.cells.now in
    let room = lane_room n c.loop-l.l g.row.LANES c.args.f.now c.loop-l-test.true c.requires.room in
    lanes_turn c.loop-l.invariant room c.push_from.new.f (c.push_from.auto.f ∙ ap length (lanes_part c.loop-l.invariant) ∙ lane-length n c.loop-l.l c.args.f.now room)
    (subst (λ (x : List ℤ). Pushed n c.args.row.now.cells.now c.args.row.now.links.now (get_or x c.args.u (pos 0)) x c.push_from.new.f) (lanes_part c.loop-l.invariant) c.push_from.ensures)

pub returns-clause-past : goal.returns-clause-past
returns-clause-past g c =
    let e : c.loop-l.l ≡ g.row.LANES = omega arith in
    rw e at (lanes_past c.loop-l.invariant)
