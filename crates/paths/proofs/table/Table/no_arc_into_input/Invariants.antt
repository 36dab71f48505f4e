use Rattle.std.proofs.Common.{◌≡◌, ℕ, ◌<◌}
use Rattle.paths.specs.Board.{graph_in}
use Rattle.paths.proofs.Inputs.{to_inputs}
use Rattle.paths.proofs.table.Table.no_arc_into_input.Given as goal

abbrev pub invariant-loop-u : goal.invariant-loop-u
invariant-loop-u l = (k : ℕ) → k < l.u → to_inputs l.self.board.inputs l.self.board.vertices (graph_in l.self.board l.self.cells.now) k ≡ 0
