use Rattle.std.proofs.Common.{◌≡◌, ◌++◌, drop}
use Rattle.laws.specs.Lists.{tabulate}
use Rattle.timing.specs.Limits.{absent_cell}
use Rattle.timing.specs.Table.{read_cell}
use Rattle.plans.specs.ShrunkRow.{joined_cell}
use Rattle.plans.proofs.shrink.join_row.Given as goal

abbrev pub invariant-loop-t : goal.invariant-loop-t
invariant-loop-t l = l.row ≡ tabulate l.t (joined_cell l.fn.row l.via (read_cell absent_cell l.fn.into)) ++ drop l.t l.fn.row
