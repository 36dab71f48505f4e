use Rattle.timing.specs.Table.{graph_of}
use Rattle.plans.proofs.FreshNumber.{NoneBelow}
use Rattle.plans.proofs.rows.fresh_number.Given as goal

abbrev pub invariant-loop-k : goal.invariant-loop-k
invariant-loop-k l = NoneBelow l.table.board.inputs l.table.board.outputs l.table.board.vertices (graph_of l.table.board.vertices l.table.cells.now) l.k
