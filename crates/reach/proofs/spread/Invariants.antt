use Rattle.paths.specs.Tables.{timing_graph}
use Rattle.sets.proofs.Counting.{left_out}
use Rattle.reach.proofs.Barring.{Barring}
use Rattle.reach.proofs.spread.Given as goal

abbrev pub invariant-loop-x : goal.invariant-loop-x
invariant-loop-x l = Barring (timing_graph l.table) l.without l.initial.met l.met l.done

abbrev pub decreases-loop-x : goal.decreases-loop-x
decreases-loop-x l = left_out l.done
