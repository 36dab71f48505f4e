use Rattle.std.proofs.Common.{◌≡◌, ◌+◌}
use Rattle.paths.specs.Arrivals.{stored, only_at}
use Rattle.paths.proofs.Lanes.{Lanes}
use Rattle.paths.proofs.arrivals.start_each.Given as goal

abbrev pub invariant-loop-l : goal.invariant-loop-l
invariant-loop-l g l = Lanes l.n (λ k f₀ f. f ≡ stored l.n (only_at (l.i + k)) f₀) l.initial.f l.f l.l
