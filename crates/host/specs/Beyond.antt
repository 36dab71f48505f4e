-- The bytes past the cells that a C call uses are as they were. Proved in proofs/Beyond.antt.
use Rattle.std.specs.Prelude.{◌≡◌, List, ℕ, ◌*◌, ◌≤◌, ◌<◌, length, get_or}
use Rattle.reduction.specs.Steps.{Step}
use Rattle.host.specs.Answers.{matrix_bytes, matrix_over, table_bytes, step_over}

abbrev pub Bytes : List ℕ → Type 0
Bytes s = (i : ℕ) → get_or s i 0 < 256

-- a run before and after: as long as it was, and past its first k cells of w bytes each byte is the same
pub record SameBeyond (w k : ℕ) (before after : List ℕ) : Type 0 where
  pub length_kept : length after ≡ length before
  pub kept : (i : ℕ) → w * k ≤ i → get_or after i 0 ≡ get_or before i 0

-- board_matrix uses m × n cells of the matrix
abbrev pub MatrixBeyond : Type 0
MatrixBeyond = (m n N : ℕ) (table scratch matrix : List ℕ) → Bytes matrix
    → SameBeyond 8 (m * n) matrix (matrix_bytes (matrix_over m n N table scratch matrix) matrix)

-- board_shrink, board_prune and any step use N × N cells of the table
abbrev pub TableBeyond : Type 0
TableBeyond = (m n N : ℕ) (q : Step) (table scratch : List ℕ) → Bytes table
    → SameBeyond 4 (N * N) table (table_bytes (step_over m n N q table scratch) table)
