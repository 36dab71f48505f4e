use Rattle.std.proofs.Common.{◌≡◌, ℕ, length}
use Rattle.stars.proofs.Marking.{Marking}
use Rattle.timing.specs.Limits.{max_vertices}
use Rattle.stars.proofs.star.marks.Given as goal

abbrev pub invariant-loop-x : goal.invariant-loop-x
invariant-loop-x l = record { long : length l.marked ≡ max_vertices; marked : (v : ℕ) → Marking l.xs l.marked l.x-index v }
