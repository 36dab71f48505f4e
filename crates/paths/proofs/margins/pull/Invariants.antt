use Rattle.std.proofs.Common.{◌-◌, length}
use Rattle.timing.specs.Limits.{absent_wide}
use Rattle.timing.specs.Table.{read_cell}
use Rattle.timing.specs.Delays.{arrival_in}
use Rattle.paths.specs.Chain.{walked_at}
use Rattle.paths.proofs.Pulling.{Gathered}
use Rattle.paths.proofs.margins.pull.Given as goal

abbrev pub invariant-loop-v : goal.invariant-loop-v
invariant-loop-v l = Gathered (length l.row.cells.now) (walked_at l.row.cells.now l.row.links.now) (read_cell absent_wide l.start) (arrival_in l.f) (read_cell absent_wide l.best) l.v

abbrev pub decreases-loop-v : goal.decreases-loop-v
decreases-loop-v l = length l.row.cells.now - l.v
