use Rattle.laws.proofs.Booleans.{T-not-false}
use Rattle.timing.proofs.Table.{graph_of_within}
use Rattle.sets.proofs.Counting.{plus_fewer}
use Rattle.reach.proofs.Spreading.{spreading_end}
use Rattle.reach.proofs.Barring.{barring_start, barring_in, barring_turn}
use Rattle.reach.proofs.Reaching.{is_left, none_left}
use Rattle.reach.proofs.spread.Goals as goal

pub loop-x-init : goal.loop-x-init
loop-x-init c = barring_start c.empty.result c.plus-done.result c.empty.ensures c.plus-done.ensures

pub loop-x-preserved : goal.loop-x-preserved
loop-x-preserved c =
    let l = c.loop-x in
    let left = is_left l.met l.done c.without.result c.without.ensures c.in-Some.x c.in-Some.ensures.1 in
    barring_turn (graph_of_within _ _) c.requires.from_below l.invariant c.in-Some.x left.0 left.1 c.targets.result c.or-met.result c.plus-done-in-Some.result c.targets.ensures c.or-met.ensures c.plus-done-in-Some.ensures

pub targets-requires : goal.targets-requires
targets-requires c =
    let l = c.loop-x in
    barring_in (graph_of_within _ _) c.requires.from_below l.invariant c.in-Some.x (is_left l.met l.done c.without.result c.without.ensures c.in-Some.x c.in-Some.ensures.1).0

pub loop-x-smaller : goal.loop-x-smaller
loop-x-smaller c =
    let l = c.loop-x in
    plus_fewer c.in-Some.x l.done c.plus-done-in-Some.result c.in-Some.ensures.0 (T-not-false (is_left l.met l.done c.without.result c.without.ensures c.in-Some.x c.in-Some.ensures.1).1) c.plus-done-in-Some.ensures

pub returns : goal.returns
returns c =
    let l = c.loop-x in
    spreading_end l.invariant.spreading (none_left l.met l.done c.without.result c.without.ensures c.in_default.ensures)
