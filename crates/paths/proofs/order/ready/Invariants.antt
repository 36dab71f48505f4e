use Rattle.paths.specs.Order.{NoZero}
use Rattle.paths.proofs.order.ready.Given as goal

abbrev pub invariant-loop-v : goal.invariant-loop-v
invariant-loop-v l = NoZero l.v l.fan l.from
