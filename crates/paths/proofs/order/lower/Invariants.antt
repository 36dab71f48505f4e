use Rattle.std.proofs.Common.{◌≡◌, ◌+◌, get_or}
use Rattle.laws.proofs.Storing.{Stored}
use Rattle.graph.specs.Count.{bit}
use Rattle.paths.specs.Cells.{cell_at}
use Rattle.paths.proofs.order.lower.Given as goal

abbrev pub invariant-loop-v : goal.invariant-loop-v
invariant-loop-v l = Stored (λ j x. x + bit (cell_at l.row j) ≡ get_or l.initial.fan j 0) 0 l.initial.fan l.fan l.v
