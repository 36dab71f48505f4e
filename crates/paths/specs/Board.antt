-- What the board's constructor answers, and what is said of a board and lent lists.
use Rattle.std.specs.Prelude.{List, ℕ, ◌*◌, ◌≤◌, ℤ, length}
use Rattle.laws.specs.Lent.{Past}
use Rattle.graph.specs.Graph.{Graph}
use Rattle.timing.specs.Limits.{scratch_cells}
use Rattle.timing.specs.declared.Refusal.TheVariants.{Sizes}
use Rattle.timing.specs.Refusal.{Verdict, accepted, require}
use Rattle.timing.specs.Table.{graph_of}
use Rattle.timing.specs.Checks.{BoardSizes, sizes, sizes_fit}
use Rattle.paths.specs.declared.board.Board.{Board}

abbrev pub sizes_of : Board → BoardSizes
sizes_of b = sizes b.inputs b.outputs b.vertices

-- check 1
unfoldable pub board_of : ℕ → ℕ → ℕ → Verdict BoardSizes
board_of m n N = require (sizes_fit m n N) Sizes (accepted (sizes m n N))

-- a table that is long enough
abbrev pub Lent : Board → List ℤ → Type 0
Lent b t = b.vertices * b.vertices ≤ length t

-- the graph of its table
abbrev pub graph_in : Board → List ℤ → Graph
graph_in b t = graph_of b.vertices t

-- a scratch with the cells that a call may use
abbrev pub ScratchRoom : Board → List ℤ → Type 0
ScratchRoom b s = scratch_cells b.vertices ≤ length s

-- past those cells the scratch is as it was
abbrev pub PastScratch : Board → List ℤ → List ℤ → Type 0
PastScratch b before after = Past (scratch_cells b.vertices) before after
