use Rattle.std.proofs.Common.{◌≡◌, ◌++◌, cond, get_or, pos, false, drop}
use Rattle.laws.specs.Lists.{tabulate}
use Rattle.timing.specs.Limits.{absent_cell}
use Rattle.pruning.proofs.prune.thin_row.Given as goal

abbrev pub invariant-loop-v : goal.invariant-loop-v
invariant-loop-v l = l.row ≡ tabulate l.v (λ v. cond (get_or l.marks v false) (get_or l.fn.row v (pos 0)) absent_cell) ++ drop l.v l.fn.row
