use Rattle.std.proofs.Common.{refl}
use Rattle.timing.specs.Margins.{margins_into, margins_call}
use Rattle.timing.proofs.Verdict.{error_is}
use Rattle.paths.specs.Margins.{lists}
use Rattle.paths.proofs.Answering.{answers_on, answers_refused}
use Rattle.paths.proofs.margins.margins.Goals as goal

pub returns-in_err-sorted : goal.returns-in_err-sorted
unfolding margins_call
returns-in_err-sorted c =
    rw (error_is c.from_residual.result _ c.from_residual.ensures.1) (answers_refused _ c.in_err-sorted.ensures _ _ _ refl)

pub returns : goal.returns
unfolding margins_call
returns c =
    let x = lists c.args.arrival.now c.args.required.now c.args.margin.now in
    answers_on _ c.in_ok-sorted.ensures (λ m n N. margins_into m n N c.args.given.now c.args.due.now x) _ _ _ c.margins_answer.ensures
