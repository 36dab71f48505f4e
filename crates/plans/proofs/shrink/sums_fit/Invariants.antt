use Rattle.std.proofs.Common.{◌≡◌, true}
use Rattle.laws.specs.Bounded.{every}
use Rattle.graph.specs.Delay.{◌⊕◌}
use Rattle.timing.specs.Limits.{delay_limit, fits}
use Rattle.timing.specs.Table.{graph_of}
use Rattle.plans.proofs.shrink.sums_fit.Given as goal

abbrev pub invariant-loop-u : goal.invariant-loop-u
invariant-loop-u l = every l.u (λ u. every l.table.board.vertices (λ t. fits delay_limit (graph_of l.table.board.vertices l.table.cells.now u l.k ⊕ graph_of l.table.board.vertices l.table.cells.now l.k t))) ≡ true
