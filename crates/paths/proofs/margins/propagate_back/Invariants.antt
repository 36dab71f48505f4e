use Rattle.paths.proofs.Pulling.{Pulling}
use Rattle.paths.proofs.margins.propagate_back.Given as goal

abbrev pub invariant-loop-p : goal.invariant-loop-p
invariant-loop-p l = Pulling l.walk.table.board.vertices l.walk.table.cells.now l.walk.order.now l.walk.chain.now l.initial.f l.f l.p
