use Rattle.std.proofs.Common.{◌≡◌, ℕ, ◌<◌, ◌≤◌, length, get_or}
use Rattle.timing.specs.Limits.{max_vertices}
use Rattle.paths.specs.Board.{graph_in}
use Rattle.paths.proofs.Sorting.{Going}
use Rattle.paths.proofs.order.topological_order.Given as goal

abbrev pub invariant-loop-p : goal.invariant-loop-p
invariant-loop-p l = record {
  fan_size : length l.fan ≡ max_vertices;
  order_size : length l.order ≡ max_vertices;
  going : Going l.table.board.vertices (graph_in l.table.board l.table.cells.now) l.order l.fan l.p;
  upto : l.from ≤ l.table.board.vertices;
  placed : (v : ℕ) → v < l.from → 100 ≤ get_or l.fan v 0;
}
