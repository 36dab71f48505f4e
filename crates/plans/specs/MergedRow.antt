-- A row of the table when output o is merged back to its driver v: `row` is the row of u, `via` the row of v, d the delay of v→o.
use Rattle.std.specs.Prelude.{◌≡◌, cond, ◌||◌, List, ℕ, ◌≤◌, ◌<◌, T, eqb, ℤ, pos, neg_ℤ, length, get_or}
use Rattle.graph.specs.Delay.{Delay, absent, at, ◌⋓◌, ◌⊕◌}
use Rattle.timing.specs.Limits.{max_vertices, delay_limit, absent_cell, fits}
use Rattle.timing.specs.Table.{write_cell, graph_of}
use Rattle.paths.specs.Cells.{cell_at}
use Rattle.plans.specs.ShrunkRow.{sums_fit}

-- an arc to v leads to o, with d added
abbrev pub redirected_cell : List ℤ → Delay → ℕ → ℕ → ℤ → ℕ → ℤ
redirected_cell row into v o d t = cond (eqb t v) absent_cell (cond (eqb t o) (write_cell absent_cell (into ⊕ at d)) (get_or row t (pos 0)))

-- of any u: v's row goes, and o takes v's arcs, with d taken off
abbrev pub merged_cell : List ℤ → List ℤ → ℕ → ℕ → ℤ → ℕ → ℕ → ℤ
merged_cell row via v o d u t =
    write_cell absent_cell
    (cond (eqb u v || eqb t v) absent
    (cond (eqb t o) (cell_at row v ⊕ at d)
    (cond (eqb u o) (cell_at row t ⋓ (cell_at via t ⊕ at (neg_ℤ d)))
    (cell_at row t))))

-- a row whose arc to v can lead to o
pub record Redirectable (row : List ℤ) (into : Delay) (v o : ℕ) (d : ℤ) : Type 0 where
  pub from_inside : v < length row
  pub to_inside : o < length row
  pub legal : T (fits delay_limit (at d))
  pub sum_fits : T (fits delay_limit (into ⊕ at d))

-- a row in which o can be merged back
pub record Mergeable (row via : List ℤ) (v o : ℕ) (d : ℤ) : Type 0 where
  pub few : length row ≤ max_vertices
  pub redirectable : Redirectable row (cell_at row v) v o d
  pub lowered_fit : T (sums_fit (length row) (at (neg_ℤ d)) via)

-- in table t the arc v→o has the delay d
pub record Drives (N : ℕ) (t : List ℤ) (v o : ℕ) (d : ℤ) : Type 0 where
  pub from_below : v < N
  pub to_below : o < N
  pub arc : graph_of N t v o ≡ at d
  pub legal : T (fits delay_limit (at d))
