use Rattle.paths.specs.Board.{graph_in}
use Rattle.paths.proofs.Columns.{Passed}
use Rattle.paths.proofs.table.Table.next_into.Given as goal

abbrev pub invariant-loop-u : goal.invariant-loop-u
invariant-loop-u l = Passed (graph_in l.fn.self.board l.self.cells.now) l.v l.from l.u
