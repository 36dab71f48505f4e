-- A row of the table when vertex k is shrunk: `row` is the row of u, `via` the row of k.
use Rattle.std.specs.Prelude.{Bool, cond, ◌||◌, List, ℕ, ◌≤◌, ◌<◌, T, eqb, ℤ, length}
use Rattle.laws.specs.Bounded.{every}
use Rattle.graph.specs.Delay.{Delay, absent, ◌⋓◌, ◌⊕◌}
use Rattle.timing.specs.Limits.{max_vertices, delay_limit, absent_cell, fits}
use Rattle.timing.specs.Table.{write_cell}
use Rattle.paths.specs.Cells.{cell_at}

-- the sums of an arc into k and k's n cells are absent or in range
abbrev pub sums_fit : ℕ → Delay → List ℤ → Bool
sums_fit n into via = every n (λ t. fits delay_limit (into ⊕ cell_at via t))

-- u→t joined with u→k→t
abbrev pub joined_cell : List ℤ → List ℤ → Delay → ℕ → ℤ
joined_cell row via into t = write_cell absent_cell (cell_at row t ⋓ (into ⊕ cell_at via t))

-- the same, without k's column
abbrev pub bypassed_cell : List ℤ → List ℤ → ℕ → ℕ → ℤ
bypassed_cell row via k t = write_cell absent_cell (cond (eqb t k) absent (cell_at row t ⋓ (cell_at row k ⊕ cell_at via t)))

-- the same, of any u: k's row goes too
abbrev pub shrunk_cell : List ℤ → List ℤ → ℕ → ℕ → ℕ → ℤ
shrunk_cell row via k u t = write_cell absent_cell (cond (eqb u k || eqb t k) absent (cell_at row t ⋓ (cell_at row k ⊕ cell_at via t)))

-- a row from which k can be shrunk
pub record Shrinkable (row via : List ℤ) (k : ℕ) : Type 0 where
  pub few : length row ≤ max_vertices
  pub inside : k < length row
  pub legal : T (sums_fit (length row) (cell_at row k) via)
