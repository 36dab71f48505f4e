use Rattle.reach.proofs.Sources.{Left}
use Rattle.reach.proofs.one_source.Given as goal

abbrev pub invariant-loop-set : goal.invariant-loop-set
invariant-loop-set l = Left l.b l.initial.sets l.set-index l.sets
