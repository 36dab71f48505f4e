-- What a call answers to C, and the bytes that it leaves: minus the refusal's number and the bytes as they were, or what the accepted call says.
use Rattle.std.specs.Prelude.{List, ℕ, ℤ, pos, neg_ℤ}
use Rattle.timing.specs.Refusal.{Verdict, refused, accepted}
use Rattle.timing.specs.Queries.{matrix_call}
use Rattle.reduction.specs.Outcome.{Reduced}
use Rattle.reduction.specs.Steps.{Step, step_call}
use Rattle.host.specs.Runs.{whole_cells, cells_of, with_cells}

-- the matrix call: 0, and the matrix's cells in the bytes
abbrev pub matrix_answer : Verdict (List ℤ) → ℤ
matrix_answer (refused r) = neg_ℤ (pos r)
matrix_answer (accepted cells) = pos 0

abbrev pub matrix_bytes : Verdict (List ℤ) → List ℕ → List ℕ
matrix_bytes (refused r) bytes = bytes
matrix_bytes (accepted cells) bytes = with_cells 8 cells bytes

-- a step: the arcs left, and the table's cells in the bytes
abbrev pub step_answer : Verdict Reduced → ℤ
step_answer (refused r) = neg_ℤ (pos r)
step_answer (accepted x) = pos x.arcs_left

abbrev pub table_bytes : Verdict Reduced → List ℕ → List ℕ
table_bytes (refused r) bytes = bytes
table_bytes (accepted x) bytes = with_cells 4 x.table bytes

-- document 01's calls over the whole cells of byte runs, with a scratch of s cells
abbrev pub matrix_with : ℕ → ℕ → ℕ → ℕ → List ℕ → List ℕ → Verdict (List ℤ)
matrix_with m n N s table matrix = matrix_call m n N s (cells_of 4 table) (cells_of 8 matrix)

abbrev pub step_with : ℕ → ℕ → ℕ → ℕ → Step → List ℕ → Verdict Reduced
step_with m n N s q table = step_call m n N s q (cells_of 4 table)

-- and with the cells of a scratch of bytes
abbrev pub matrix_over : ℕ → ℕ → ℕ → List ℕ → List ℕ → List ℕ → Verdict (List ℤ)
matrix_over m n N table scratch matrix = matrix_with m n N (whole_cells 8 scratch) table matrix

abbrev pub step_over : ℕ → ℕ → ℕ → Step → List ℕ → List ℕ → Verdict Reduced
step_over m n N q table scratch = step_with m n N (whole_cells 8 scratch) q table
