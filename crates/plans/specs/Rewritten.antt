-- A step that rewrites each row of a table on its own: a row that is lent, beside one that was copied first.
use Rattle.std.specs.Prelude.{◌≡◌, List, ℕ, ◌*◌, ◌≤◌, ◌<◌, ℤ, length, take, drop}
use Rattle.graph.specs.Graph.{Graph}
use Rattle.timing.specs.Limits.{max_vertices, absent_cell}
use Rattle.timing.specs.Table.{write_cell, graph_of}
use Rattle.paths.specs.Cells.{cell_at}

-- the cells of a new graph
abbrev pub new_cell : Graph → ℕ → ℕ → ℤ
new_cell g u v = write_cell absent_cell (g u v)

-- via begins with row k of the table t
pub record Copied (N : ℕ) (t via : List ℤ) (k : ℕ) : Type 0 where
  pub few : N ≤ max_vertices
  pub room : N * N ≤ length t
  pub inside : k < N
  pub same : (v : ℕ) → v < N → cell_at via v ≡ graph_of N t k v

-- and row is row u
pub record RowOf (N : ℕ) (t via : List ℤ) (k u : ℕ) (row : List ℤ) : Type 0 where
  pub copied : Copied N t via k
  pub below : u < N
  pub is : row ≡ take N (drop (N * u) t)
