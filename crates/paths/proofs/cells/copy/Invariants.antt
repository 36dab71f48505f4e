use Rattle.std.proofs.Common.{◌≡◌, get_or, pos}
use Rattle.paths.specs.Arrivals.{stored}
use Rattle.paths.proofs.cells.copy.Given as goal

abbrev pub invariant-loop-i : goal.invariant-loop-i
invariant-loop-i l = l.to ≡ stored l.i (λ j. get_or l.from j (pos 0)) l.initial.to
