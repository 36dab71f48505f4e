use Rattle.std.proofs.Common.{◌≡◌, not, ◌&&◌, ◌+◌, ◌*◌, get_or, false}
use Rattle.laws.specs.Bounded.{some}
use Rattle.graph.specs.Delay.{present}
use Rattle.timing.specs.Table.{graph_of}
use Rattle.pruning.proofs.prune.some_unmarked.Given as goal

abbrev pub invariant-loop-u : goal.invariant-loop-u
invariant-loop-u l = some l.u (λ u. some l.n (λ v. present (graph_of l.n l.table.cells.now u v) && not (get_or l.marks (l.n * u + v) false))) ≡ false
