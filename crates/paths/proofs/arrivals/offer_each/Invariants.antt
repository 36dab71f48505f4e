use Rattle.std.proofs.Common.{get_or, pos}
use Rattle.paths.specs.Arrivals.{OfferedEach}
use Rattle.paths.proofs.arrivals.offer_each.Given as goal

abbrev pub invariant-loop-l : goal.invariant-loop-l
invariant-loop-l g l = OfferedEach l.l l.n l.v (λ k. get_or l.a k (pos 0)) l.cell l.initial.f l.f
