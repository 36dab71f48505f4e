use Rattle.std.proofs.Common.{◌≡◌, drop}
use Rattle.reduction.specs.Star.{distinct}
use Rattle.stars.proofs.star.is_set.Given as goal

abbrev pub invariant-loop-i : goal.invariant-loop-i
invariant-loop-i l = distinct (drop l.i l.xs) ≡ distinct l.xs
