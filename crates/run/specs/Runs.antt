-- What a run's answer means, and what becomes of the table.
use Rattle.run.specs.declared.answer.Ran.{Ran}
use Rattle.timing.specs.declared.Refusal.{Refusal}
use Rattle.std.specs.Prelude.{Ok, Err, Result, List, ℕ, ℤ}
use Rattle.timing.specs.Refusal.{number, Verdict, refused, accepted, Answers}
use Rattle.reduction.specs.Outcome.{Reduced}
use Rattle.reduction.specs.Run.{whole_run}
use Rattle.paths.specs.declared.board.Board.{Board}

-- document 01's number, or the table afterwards, the steps accepted and the arcs left
abbrev pub ran_meaning : Result Ran Refusal → List ℤ → Verdict Reduced
ran_meaning (Ok ran) table = accepted (record { table = table; steps = ran.steps; arcs_left = ran.arcs })
ran_meaning (Err r) table = refused (number r)

-- r and the table afterwards are what v says
abbrev pub Runs : Verdict Reduced → List ℤ → List ℤ → Result Ran Refusal → Type 0
Runs = Answers ran_meaning (λ x. x.table)

-- a run on a board's table, with a scratch of s cells
abbrev pub run_on : Board → ℕ → List ℤ → Verdict Reduced
run_on b s t = accepted (whole_run b.inputs b.outputs b.vertices s t)
