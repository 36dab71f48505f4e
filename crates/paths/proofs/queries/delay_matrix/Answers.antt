use Rattle.std.proofs.Common.{refl}
use Rattle.timing.specs.Queries.{matrix_into, matrix_call}
use Rattle.timing.proofs.Verdict.{error_is}
use Rattle.paths.proofs.Answering.{answers_on, answers_refused, scratch_on}
use Rattle.paths.proofs.queries.delay_matrix.Goals as goal

pub returns-in_err-sorted-clause-fills : goal.returns-in_err-sorted-clause-fills
unfolding matrix_call
returns-in_err-sorted-clause-fills c =
    rw (error_is c.from_residual.result _ c.from_residual.ensures.1) (answers_refused _ c.in_err-sorted.ensures _ _ _ refl)

pub returns-clause-fills : goal.returns-clause-fills
unfolding matrix_call
returns-clause-fills c = answers_on _ c.in_ok-sorted.ensures (λ m n N. matrix_into m n N c.args.destination.now) _ _ _ c.matrix_answer.ensures.fills

pub returns-clause-scratch_after : goal.returns-clause-scratch_after
returns-clause-scratch_after c = scratch_on _ c.in_ok-sorted.ensures _ _ refl c.matrix_answer.ensures.past_scratch
