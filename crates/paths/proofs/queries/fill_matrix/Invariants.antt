use Rattle.std.proofs.Common.{◌≡◌, ◌*◌, length, drop}
use Rattle.timing.specs.Limits.{scratch_cells}
use Rattle.paths.specs.Queries.{RowsMade}
use Rattle.paths.proofs.queries.fill_matrix.Given as goal

abbrev pub invariant-loop-four : goal.invariant-loop-four
invariant-loop-four l = record {
  long : length l.scratch ≡ length l.fn.scratch;
  past : drop (scratch_cells l.walk.table.board.vertices) l.scratch ≡ drop (scratch_cells l.walk.table.board.vertices) l.fn.scratch;
  made : RowsMade l.walk.table.board l.walk.table.cells.now 0 (4 * l.four) l.fn.destination l.destination;
}

abbrev pub invariant-loop-i : goal.invariant-loop-i
invariant-loop-i l = record {
  long : length l.scratch ≡ length l.fn.scratch;
  past : drop (scratch_cells l.walk.table.board.vertices) l.scratch ≡ drop (scratch_cells l.walk.table.board.vertices) l.fn.scratch;
  made : RowsMade l.walk.table.board l.walk.table.cells.now 0 (l.i) l.fn.destination l.destination;
}
