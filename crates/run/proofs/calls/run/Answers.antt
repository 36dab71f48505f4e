use Rattle.std.proofs.Common.{refl}
use Rattle.timing.proofs.Verdict.{error_is}
use Rattle.paths.proofs.Tables.{passable_on}
use Rattle.paths.proofs.Answering.{scratch_on}
use Rattle.run.proofs.Ending.{run_done, run_refused}
use Rattle.run.proofs.calls.run.Goals as goal

pub returns-in_err-sorted-clause-runs : goal.returns-in_err-sorted-clause-runs
returns-in_err-sorted-clause-runs c =
    rw (error_is c.from_residual.result _ c.from_residual.ensures.1) (run_refused _ c.in_err-sorted.ensures)

pub rounds-requires-clause-passable : goal.rounds-requires-clause-passable
rounds-requires-clause-passable c = passable_on c.in_ok-sorted.sorted (c.in_ok-sorted.ensures.lent _ refl).0

pub rounds-requires-clause-scratch_room : goal.rounds-requires-clause-scratch_room
rounds-requires-clause-scratch_room c = (c.in_ok-sorted.ensures.lent _ refl).1

pub returns-clause-runs : goal.returns-clause-runs
returns-clause-runs c = run_done _ c.in_ok-sorted.ensures _ _ c.rounds.ensures.runs

pub returns-clause-scratch_after : goal.returns-clause-scratch_after
returns-clause-scratch_after c = scratch_on _ c.in_ok-sorted.ensures _ _ refl c.rounds.ensures.past_scratch
