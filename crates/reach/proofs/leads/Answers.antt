use Rattle.std.proofs.Common.{sym, ◌∙◌, subst}
use lib.Dec.{T}
use Rattle.laws.proofs.Booleans.{T-not-false}
use Rattle.sets.proofs.Counting.{plus_fewer}
use Rattle.reach.proofs.Spreading.{spreading_start, spreading_turn}
use Rattle.reach.proofs.Reaching.{within, met_in, met_there, met_all, is_left, none_left}
use Rattle.reach.proofs.leads.Goals as goal

pub loop-met-init : goal.loop-met-init
loop-met-init c g r = spreading_start _ (λ x y t. absurd (subst T (c.empty-done.ensures x) t))

pub returns-in_default : goal.returns-in_default
returns-in_default c g r =
    let l = c.loop-met in
    met_all _ g (within r) c.args.sets.now r.rows c.args.v c.requires.v_in_bounds l.met l.done (l.invariant g r) c.args.u (sym c.has.ensures ∙ c.loop-met-test.true)
    (none_left l.met l.done c.without.result c.without.ensures c.in_default.ensures)

pub bounds-sets-x : goal.bounds-sets-x
bounds-sets-x c =
    let l = c.loop-met in
    let g = c.requires.rowed.0 in
    let r = c.requires.rowed.1 in
    met_in _ g (within r) c.args.sets.now r.rows c.args.v c.requires.v_in_bounds l.met l.done (l.invariant g r) c.in-Some.x (is_left l.met l.done c.without.result c.without.ensures c.in-Some.x c.in-Some.ensures.1).0

pub loop-met-smaller : goal.loop-met-smaller
loop-met-smaller c =
    let l = c.loop-met in
    plus_fewer c.in-Some.x l.done c.plus-done.result c.in-Some.ensures.0 (T-not-false (is_left l.met l.done c.without.result c.without.ensures c.in-Some.x c.in-Some.ensures.1).1) c.plus-done.ensures

pub loop-met-preserved : goal.loop-met-preserved
loop-met-preserved c g r =
    let l = c.loop-met in
    let met = (is_left l.met l.done c.without.result c.without.ensures c.in-Some.x c.in-Some.ensures.1).0 in
    spreading_turn (l.invariant g r) c.in-Some.x met _ c.or-met.result c.plus-done.result
    (r.rows.row c.in-Some.x (met_in _ g (within r) c.args.sets.now r.rows c.args.v c.requires.v_in_bounds l.met l.done (l.invariant g r) c.in-Some.x met)) c.or-met.ensures c.plus-done.ensures

pub returns : goal.returns
returns c g r =
    let l = c.loop-met in
    met_there _ g (within r) c.args.sets.now r.rows c.args.v c.requires.v_in_bounds l.met l.done (l.invariant g r) c.args.u (sym c.has.ensures ∙ c.loop-met-test.false)
