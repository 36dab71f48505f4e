use Rattle.std.proofs.Common.{length}
use Rattle.timing.specs.Limits.{absent_cell}
use Rattle.timing.specs.Table.{read_cell}
use Rattle.paths.specs.Cells.{cell_at}
use Rattle.paths.specs.Chain.{unbeaten}
use Rattle.paths.proofs.Chaining.{Linked}
use Rattle.paths.proofs.chain.link_row.Given as goal

abbrev pub invariant-loop-v : goal.invariant-loop-v
invariant-loop-v g l = Linked (length l.initial.chain) (unbeaten (cell_at l.row) (cell_at l.next) (read_cell absent_cell l.d)) l.chain l.after l.v
