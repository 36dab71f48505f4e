use Rattle.std.proofs.Common.{ℕ, List, ℤ, ◌+◌}
use Rattle.paths.proofs.Lanes.{Lanes}
use Rattle.pruning.specs.PruneMarks.{AlsoMarked}
use Rattle.pruning.proofs.Marking.{up_to, decider}
use Rattle.pruning.proofs.prune.mark_from.Given as goal

-- nothing is said of a lane that has been swept
abbrev pub Spent : ℕ → List ℤ → List ℤ → Type 0
Spent l f₀ f = Unit {0}

abbrev pub invariant-loop-l : goal.invariant-loop-l
invariant-loop-l g l = record {
  lanes : Lanes l.n Spent l.initial.f l.f l.l;
  marked : AlsoMarked l.n (up_to (λ k. decider l.walk.table.board l.walk.table.cells.now (l.i + k)) l.l) l.fn.marks l.marks;
}
