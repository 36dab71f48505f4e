use Rattle.std.proofs.Common.{length}
use Rattle.graph.specs.Graph.{Graph}
use Rattle.sets.specs.Sets.{set_at}
use Rattle.sets.proofs.Counting.{left_out}
use Rattle.reach.specs.RowSets.{Rowed}
use Rattle.reach.proofs.Spreading.{Spreading}
use Rattle.reach.proofs.leads.Given as goal

-- whatever graph it is
abbrev pub invariant-loop-met : goal.invariant-loop-met
invariant-loop-met l = (g : Graph) → Rowed (length l.sets) g l.sets → Spreading g (set_at l.sets l.v) l.met l.done

abbrev pub decreases-loop-met : goal.decreases-loop-met
decreases-loop-met l = left_out l.done
