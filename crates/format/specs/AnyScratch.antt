-- Every call with any scratch of at least 4 × N cells answers and leaves what it does with any other such scratch. Proved in proofs/AnyScratch.antt.
use Rattle.std.specs.Prelude.{◌≡◌, Option, List, ℕ, ◌≤◌, ℤ}
use Rattle.timing.specs.Limits.{scratch_cells}
use Rattle.timing.specs.Refusal.{Verdict}
use Rattle.timing.specs.Checks.{BoardSizes}
use Rattle.timing.specs.Queries.{matrix_call, arrival_call}
use Rattle.timing.specs.Margins.{Times, margins_call}
use Rattle.reduction.specs.Outcome.{Reduced}
use Rattle.reduction.specs.Steps.{Step, step_call}
use Rattle.reduction.specs.FindStar.{Found, find_star_call}
use Rattle.reduction.specs.Run.{run_call}
use Rattle.format.specs.Records.{byte_at}
use Rattle.format.specs.Reading.{Reading, read_call, table_read}
use Rattle.format.specs.Writing.{Written, write_call}

-- a call with all that is lent to it but the scratch; a file says its board's sizes itself
pub data Request : Type 0 where
  matrix : BoardSizes → List ℤ → List ℤ → Request
  arrivals : BoardSizes → List ℤ → List ℤ → List ℤ → Request
  margins : BoardSizes → List ℤ → List ℤ → List ℤ → Times → Request
  finder : BoardSizes → List ℤ → Request
  step : BoardSizes → Step → List ℤ → Request
  run : BoardSizes → List ℤ → Request
  read : List ℤ → List ℕ → List ℤ → Request
  write : BoardSizes → List ℤ → List ℕ → Request

-- what it answers and leaves: a refused call leaves all as it was, an accepted one has what it leaves in its value; of reading, the table too
pub data Answer : Type 0 where
  cells : Verdict (List ℤ) → Answer
  times : Verdict Times → Answer
  found : Verdict (Option Found) → Answer
  reduced : Verdict Reduced → Answer
  board : Reading BoardSizes → List ℤ → Answer
  written : Verdict Written → Answer

-- with a scratch of s cells
abbrev pub answered : Request → ℕ → Answer
answered (matrix b t destination) s = cells (matrix_call b.inputs b.outputs b.vertices s t destination)
answered (arrivals b t a answers) s = cells (arrival_call b.inputs b.outputs b.vertices s t a answers)
answered (margins b t a r answers) s = times (margins_call b.inputs b.outputs b.vertices s t a r answers)
answered (finder b t) s = found (find_star_call b.inputs b.outputs b.vertices s t)
answered (step b q t) s = reduced (step_call b.inputs b.outputs b.vertices s q t)
answered (run b t) s = reduced (run_call b.inputs b.outputs b.vertices s t)
answered (read l file t) s = board (read_call l file t s) (table_read l file t s)
answered (write b t destination) s = written (write_call b.inputs b.outputs b.vertices s t destination)

-- N; of a read, its file's
abbrev pub vertices : Request → ℕ
vertices (matrix b t destination) = b.vertices
vertices (arrivals b t a answers) = b.vertices
vertices (margins b t a r answers) = b.vertices
vertices (finder b t) = b.vertices
vertices (step b q t) = b.vertices
vertices (run b t) = b.vertices
vertices (read l file t) = byte_at file 4
vertices (write b t destination) = b.vertices

abbrev pub AnyScratch : Type 0
AnyScratch = (c : Request) (s s' : ℕ) → scratch_cells (vertices c) ≤ s → scratch_cells (vertices c) ≤ s' → answered c s ≡ answered c s'
