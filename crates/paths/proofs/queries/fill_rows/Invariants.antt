use Rattle.std.proofs.Common.{◌+◌}
use Rattle.paths.specs.Queries.{RowsMade}
use Rattle.paths.proofs.queries.fill_rows.Given as goal

abbrev pub invariant-loop-l : goal.invariant-loop-l
invariant-loop-l g l = RowsMade l.walk.table.board l.walk.table.cells.now l.i (l.i + l.l) l.initial.destination l.destination
