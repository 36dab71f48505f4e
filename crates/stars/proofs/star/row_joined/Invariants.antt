use Rattle.std.proofs.Common.{◌≡◌, drop}
use Rattle.laws.specs.Bounded.{each}
use Rattle.graph.specs.Delay.{present}
use Rattle.paths.specs.Cells.{cell_at}
use Rattle.stars.proofs.star.row_joined.Given as goal

abbrev pub invariant-loop-t : goal.invariant-loop-t
invariant-loop-t l = each (drop l.t-index l.targets) (λ t. present (cell_at l.row t)) ≡ each l.targets (λ t. present (cell_at l.row t))
