use Rattle.std.proofs.Common.{◌≡◌, not, ◌&&◌, get_or, false}
use Rattle.laws.specs.Bounded.{some}
use Rattle.graph.specs.Delay.{present}
use Rattle.paths.specs.Cells.{cell_at}
use Rattle.pruning.proofs.prune.row_unmarked.Given as goal

abbrev pub invariant-loop-v : goal.invariant-loop-v
invariant-loop-v l = l.some ≡ some l.v (λ k. present (cell_at l.row k) && not (get_or l.marks k false))
