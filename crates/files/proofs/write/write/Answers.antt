use Rattle.timing.proofs.Verdict.{error_is}
use Rattle.files.proofs.FileAnswers.{call_written, call_stopped}
use Rattle.files.proofs.write.write.Goals as goal

pub returns-in_err-sorted : goal.returns-in_err-sorted
returns-in_err-sorted c = rw (error_is c.from_residual.result _ c.from_residual.ensures.1) (call_stopped _ c.in_err-sorted.ensures _)

pub returns : goal.returns
returns c = call_written _ c.in_ok-sorted.ensures _ _ _ c.file_answer.ensures
