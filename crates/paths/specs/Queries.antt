-- What the answers of the matrix call and the arrival call mean, and what becomes of the lent memory.
use Rattle.timing.specs.declared.Refusal.{Refusal}
use Rattle.std.specs.Prelude.{Err, Ok, Result, ◌≡◌, Bool, false, ◌&&◌, List, ◌++◌, ℕ, ◌*◌, ℤ, length, drop}
use Rattle.laws.specs.Lists.{rows}
use Rattle.laws.specs.Lent.{Past}
use Rattle.timing.specs.Limits.{absent_wide, scratch_cells}
use Rattle.timing.specs.Refusal.{number, Verdict, refused, accepted, Answers}
use Rattle.timing.specs.Checks.{sizes_fit, table_fits, scratch_fits}
use Rattle.timing.specs.Table.{write_cell}
use Rattle.timing.specs.Delays.{matrix, matrix_cells}
use Rattle.timing.specs.Queries.{matrix_into, arrivals_into}
use Rattle.paths.specs.declared.board.Board.{Board}
use Rattle.paths.specs.Board.{graph_in}

-- document 01's number, or the destination afterwards: a list, or three
abbrev pub query_meaning : {L : Type 0} → Result (Unit {0}) Refusal → L → Verdict L
query_meaning (Ok tt) destination = accepted destination
query_meaning (Err r) destination = refused (number r)

-- r and the destination afterwards are what v says
abbrev pub Fills : {L : Type 0} → Verdict L → L → L → Result (Unit {0}) Refusal → Type 0
Fills = Answers query_meaning (λ cells. cells)

-- the two calls after their checks, at a board's table
abbrev pub matrix_on : Board → List ℤ → List ℤ → Verdict (List ℤ)
matrix_on b t destination = matrix_into b.inputs b.outputs b.vertices destination (graph_in b t)

abbrev pub arrivals_on : Board → List ℤ → List ℤ → List ℤ → Verdict (List ℤ)
arrivals_on b t given answers = arrivals_into b.inputs b.outputs b.vertices given answers (graph_in b t)

-- a destination that begins with the matrix
abbrev pub with_matrix : Board → List ℤ → List ℤ → List ℤ
with_matrix b t destination = matrix_cells b.inputs b.outputs b.vertices (graph_in b t) ++ drop (b.outputs * b.inputs) destination

-- a cell of the matrix
abbrev pub entry : Board → List ℤ → ℕ → ℕ → ℤ
entry b t i j = write_cell absent_wide (matrix b.inputs b.vertices (graph_in b t) i j)

-- the first i rows are there, and the rest is as in d₀
abbrev pub RowsDone : Board → List ℤ → ℕ → List ℤ → List ℤ → Type 0
RowsDone b t i d₀ d = d ≡ rows b.outputs i (entry b t) ++ drop (b.outputs * i) d₀

-- where there were i rows there are k
abbrev pub RowsMade : Board → List ℤ → ℕ → ℕ → List ℤ → List ℤ → Type 0
RowsMade b t i k before after = (d₀ : List ℤ) → RowsDone b t i d₀ before → RowsDone b t k d₀ after

-- the lent memory passes checks 1, 2 and 3
abbrev pub lent_fits : ℕ → ℕ → ℕ → List ℤ → ℕ → Bool
lent_fits m n N t s = sizes_fit m n N && table_fits N t && scratch_fits N s

-- the scratch cells past those that a call may use stay, and all of them where check 1, 2 or 3 refuses
pub record ScratchAfter (m n N : ℕ) (t before after : List ℤ) : Type 0 where
  pub past : Past (scratch_cells N) before after
  pub untouched : lent_fits m n N t (length before) ≡ false → after ≡ before
