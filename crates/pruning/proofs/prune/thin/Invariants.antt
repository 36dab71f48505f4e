use Rattle.std.proofs.Common.{◌≡◌, ◌++◌, ◌*◌, drop}
use Rattle.laws.specs.Lists.{rows}
use Rattle.pruning.proofs.MarkedRows.{thin_cell}
use Rattle.pruning.proofs.prune.thin.Given as goal

abbrev pub invariant-loop-u : goal.invariant-loop-u
invariant-loop-u l = l.table ≡ rows l.n l.u (thin_cell l.n l.fn.table l.marks) ++ drop (l.n * l.u) l.fn.table
