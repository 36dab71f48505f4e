use Rattle.std.proofs.Common.{◌≡◌, ℕ, ◌<◌, length, get_or}
use Rattle.laws.specs.Bounded.{sum}
use Rattle.graph.specs.Count.{bit}
use Rattle.timing.specs.Limits.{max_vertices}
use Rattle.paths.specs.Board.{graph_in}
use Rattle.paths.proofs.order.fans.Given as goal

abbrev pub invariant-loop-u : goal.invariant-loop-u
invariant-loop-u l = record {
  size : length l.fan ≡ max_vertices;
  counted : (v : ℕ) → v < l.table.board.vertices → get_or l.fan v 0 ≡ sum l.u (λ x. bit (graph_in l.table.board l.table.cells.now x v));
}
