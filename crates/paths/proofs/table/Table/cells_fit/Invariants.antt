use Rattle.std.proofs.Common.{◌≡◌, true}
use Rattle.laws.specs.Bounded.{every}
use Rattle.timing.specs.Limits.{delay_limit, fits}
use Rattle.paths.specs.Board.{graph_in}
use Rattle.paths.proofs.table.Table.cells_fit.Given as goal

abbrev pub invariant-loop-u : goal.invariant-loop-u
invariant-loop-u l = every l.u (λ x. every l.self.board.vertices (λ v. fits delay_limit (graph_in l.self.board l.self.cells.now x v))) ≡ true
