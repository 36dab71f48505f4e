use Rattle.std.proofs.Common.{◌≡◌, ◌*◌, drop}
use Rattle.timing.specs.Limits.{scratch_cells}
use Rattle.pruning.specs.PruneMarks.{AlsoMarked}
use Rattle.pruning.proofs.Marking.{decides_below}
use Rattle.pruning.proofs.prune.prune_marks.Given as goal

abbrev pub invariant-loop-four : goal.invariant-loop-four
invariant-loop-four l = record {
  past : drop (scratch_cells l.walk.table.board.vertices) l.scratch ≡ drop (scratch_cells l.walk.table.board.vertices) l.fn.scratch;
  marked : AlsoMarked l.walk.table.board.vertices (decides_below l.walk.table.board l.walk.table.cells.now (4 * l.four)) l.fn.marks l.marks;
}

abbrev pub invariant-loop-i : goal.invariant-loop-i
invariant-loop-i l = record {
  past : drop (scratch_cells l.walk.table.board.vertices) l.scratch ≡ drop (scratch_cells l.walk.table.board.vertices) l.fn.scratch;
  marked : AlsoMarked l.walk.table.board.vertices (decides_below l.walk.table.board l.walk.table.cells.now l.i) l.fn.marks l.marks;
}
