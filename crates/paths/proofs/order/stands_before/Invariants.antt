use Rattle.paths.proofs.Scanning.{Scanned}
use Rattle.paths.proofs.order.stands_before.Given as goal

abbrev pub invariant-loop-x : goal.invariant-loop-x
invariant-loop-x l = Scanned l.n l.order l.a l.b l.x-index
