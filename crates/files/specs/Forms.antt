-- Arcs, each written as `text` has it.
use Rattle.std.specs.Prelude.{List, ℕ, ℤ}
use Rattle.std.specs.List.{flat_map}
use Rattle.timing.specs.Limits.{absent_cell}
use Rattle.timing.specs.Table.{read_cell}
use Rattle.format.specs.Arcs.{Arc, arc_in, row_arcs, arcs_of}
use Rattle.paths.specs.declared.board.Board.{Board}
use Rattle.paths.specs.Board.{graph_in}

-- that of a cell, and those of a row and of a board's table
module _ (text : Arc → List ℕ) where
  abbrev pub cell_as : ℕ → ℕ → ℤ → List ℕ
  cell_as u v cell = flat_map text (arc_in u v (read_cell absent_cell cell))

  abbrev pub row_as : Board → List ℤ → ℕ → List ℕ
  row_as b t u = flat_map text (row_arcs (graph_in b t) u 0 b.vertices)

  abbrev pub table_as : Board → List ℤ → List ℕ
  table_as b t = flat_map text (arcs_of b.vertices (graph_in b t))
