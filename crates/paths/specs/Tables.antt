-- What a table says.
use Rattle.std.specs.Prelude.{List, ℤ}
use Rattle.graph.specs.Graph.{Graph}
use Rattle.timing.specs.Checks.{BoardSizes}
use Rattle.timing.specs.Sound.{Sound}
use Rattle.paths.specs.declared.board.Board.{Board}
use Rattle.paths.specs.declared.table.Table.{Table}
use Rattle.paths.specs.Board.{sizes_of, graph_in}

-- the graph of its arcs
abbrev pub timing_graph : Table → Graph
timing_graph t = graph_in t.board t.cells.now

abbrev pub table_sizes : Table → BoardSizes
table_sizes t = sizes_of t.board

-- it passes its checks
abbrev pub IsSound : Table → Type 0
IsSound t = Sound t.board.inputs t.board.outputs t.board.vertices (timing_graph t)

-- what f says of a board and the cells of its table
abbrev pub of_table {ℓ} : {A : Type ℓ} → (Board → List ℤ → A) → Table → A
of_table f t = f t.board t.cells.now
