use Rattle.paths.proofs.Chaining.{Rows}
use Rattle.paths.proofs.chain.chains.Given as goal

abbrev pub invariant-loop-p : goal.invariant-loop-p
invariant-loop-p l = Rows l.n l.sorted.table.cells.now l.sorted.order l.initial.chain l.chain l.w l.p
