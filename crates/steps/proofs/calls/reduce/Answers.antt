use Rattle.std.proofs.Common.{refl, ap, Ok}
use Rattle.timing.proofs.Verdict.{error_is}
use Rattle.paths.proofs.Tables.{passable_on}
use Rattle.paths.proofs.Answering.{scratch_on}
use Rattle.steps.proofs.Reducing.{call_done, call_refuses}
use Rattle.steps.proofs.calls.reduce.Goals as goal

pub returns-in_err-sorted-clause-reduces : goal.returns-in_err-sorted-clause-reduces
returns-in_err-sorted-clause-reduces g c =
    rw (error_is c.from_residual.result _ c.from_residual.ensures.1) (call_refuses (g.S.Step.meaning c.args.step.now) _ c.in_err-sorted.ensures)

pub apply-requires : goal.apply-requires
apply-requires g c = let l = c.in_ok-sorted.ensures.lent _ refl in (passable_on c.in_ok-sorted.sorted l.0, l.1)

pub returns-in_err-apply-clause-reduces : goal.returns-in_err-apply-clause-reduces
returns-in_err-apply-clause-reduces g c =
    rw (error_is c.from_residual-in_err-apply.result _ c.from_residual-in_err-apply.ensures.1) (call_done (g.S.Step.meaning c.args.step.now) _ c.in_ok-sorted.ensures _ _ c.in_err-apply.ensures.applies _ refl)

pub returns-clause-reduces : goal.returns-clause-reduces
returns-clause-reduces g c = call_done (g.S.Step.meaning c.args.step.now) _ c.in_ok-sorted.ensures _ _ c.in_ok-apply.ensures.applies _ (ap Ok c.arcs.ensures)

pub returns-in_err-apply-clause-scratch_after : goal.returns-in_err-apply-clause-scratch_after
returns-in_err-apply-clause-scratch_after g c = scratch_on _ c.in_ok-sorted.ensures _ _ refl c.apply.ensures.past_scratch

pub returns-clause-scratch_after : goal.returns-clause-scratch_after
returns-clause-scratch_after g c = scratch_on _ c.in_ok-sorted.ensures _ _ refl c.apply.ensures.past_scratch
