use Rattle.std.proofs.Common.{◌≡◌, ◌*◌, ◌≤◌}
use Rattle.laws.specs.Bounded.{sum}
use Rattle.graph.specs.Count.{fan_out}
use Rattle.paths.specs.Board.{graph_in}
use Rattle.paths.proofs.table.Table.arcs.Given as goal

abbrev pub invariant-loop-u : goal.invariant-loop-u
invariant-loop-u l = record {
  few : l.total ≤ 90 * l.u;
  counted : l.total ≡ sum l.u (fan_out l.self.board.vertices (graph_in l.self.board l.self.cells.now));
}
