use Rattle.sets.proofs.Counting.{left_out}
use Rattle.finder.proofs.Listing.{Listed}
use Rattle.finder.proofs.block.list_members.Given as goal

abbrev pub invariant-loop-v : goal.invariant-loop-v
invariant-loop-v l = Listed l.set l.fn.list l.from l.done l.next l.list

abbrev pub decreases-loop-v : goal.decreases-loop-v
decreases-loop-v l = left_out l.done
