use Rattle.std.proofs.Common.{◌-◌, length}
use Rattle.pruning.proofs.TightMarks.{TightBefore}
use Rattle.pruning.proofs.prune.mark_row.Given as goal

abbrev pub invariant-loop-v : goal.invariant-loop-v
invariant-loop-v l = TightBefore l.row.cells.now l.row.links.now l.a l.f l.initial.marks l.marks l.found l.v

abbrev pub decreases-loop-v : goal.decreases-loop-v
decreases-loop-v l = length l.row.cells.now - l.v
