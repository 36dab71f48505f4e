-- A table that has passed its checks, and what checks 1 to 6 answer and leave.
use Rattle.timing.specs.declared.Refusal.{Refusal}
use Rattle.std.specs.Prelude.{Ok, Result, ◌≡◌, List, ℕ, ◌≤◌, ℤ}
use Rattle.timing.specs.Refusal.{Verdict, accepted, ◌then◌, verdict, on_value}
use Rattle.timing.specs.Limits.{scratch_cells}
use Rattle.timing.specs.Checks.{BoardSizes, sizes, memory_checked, arcs_checked, checked}
use Rattle.timing.specs.Sound.{Sound}
use Rattle.paths.specs.declared.board.Board.{Board}
use Rattle.paths.specs.declared.table.Table.{Table}
use Rattle.paths.specs.declared.sorted.Sorted.{Sorted}
use Rattle.paths.specs.Board.{Lent, graph_in}
use Rattle.paths.specs.Order.{TopologicalOrder}
use Rattle.paths.specs.Tables.{timing_graph, table_sizes}

-- a table that has passed its checks
pub record Checked (b : Board) (t : List ℤ) : Type 0 where
  pub lent : Lent b t
  pub sound : Sound b.inputs b.outputs b.vertices (graph_in b t)

-- with a topological order
pub record Passable (b : Board) (t : List ℤ) (o : List ℕ) : Type 0 where
  pub checked : Checked b t
  pub order : TopologicalOrder b.vertices (graph_in b t) o

-- the sizes, where 1, 2 and 3 pass
abbrev pub memory_sizes : ℕ → ℕ → ℕ → ℕ → List ℤ → Verdict BoardSizes
memory_sizes m n N s t = memory_checked m n N s t then λ _. accepted (sizes m n N)

-- r is that answer, of a table over the lent cells, and the lent memory then long enough
pub record MemoryChecking (m n N s : ℕ) (t : List ℤ) (r : Result Table Refusal) : Type 0 where
  pub answer : on_value table_sizes (verdict r) ≡ memory_sizes m n N s t
  pub lent : (x : Table) → r ≡ Ok x → (x.cells.now ≡ t) × (scratch_cells x.board.vertices ≤ s)

-- whether 5 and 6 pass
abbrev pub arcs_pass : Table → Verdict (Unit {0})
arcs_pass x = on_value (λ _. tt) (arcs_checked x.board.inputs x.board.vertices (timing_graph x))

-- r is that answer, and an order where they pass
pub record ArcsChecking (x : Table) (r : Result (List ℕ) Refusal) : Type 0 where
  pub answer : on_value (λ _. tt) (verdict r) ≡ arcs_pass x
  pub order : (o : List ℕ) → r ≡ Ok o → TopologicalOrder x.board.vertices (timing_graph x) o

-- the sizes, where all six pass
unfoldable pub sizes_checked : ℕ → ℕ → ℕ → ℕ → List ℤ → Verdict BoardSizes
sizes_checked m n N s t = checked m n N s t then λ _. accepted (sizes m n N)

-- r is that answer, of a table over the lent cells, and the scratch then long enough
pub record Checking (m n N s : ℕ) (t : List ℤ) (r : Result Sorted Refusal) : Type 0 where
  pub answer : on_value (λ x. table_sizes x.table) (verdict r) ≡ sizes_checked m n N s t
  pub lent : (x : Sorted) → r ≡ Ok x → (x.table.cells.now ≡ t) × (scratch_cells x.table.board.vertices ≤ s)
