use Rattle.std.proofs.Common.{get_or, pos, length}
use Rattle.paths.specs.Arrivals.{Pushed}
use Rattle.paths.proofs.Lanes.{Lanes}
use Rattle.paths.proofs.arrivals.push_each.Given as goal

abbrev pub invariant-loop-l : goal.invariant-loop-l
invariant-loop-l g l = Lanes (length l.row.cells.now) (λ k f₀ f. Pushed (length l.row.cells.now) l.row.cells.now l.row.links.now (get_or f₀ l.u (pos 0)) f₀ f) l.initial.f l.f l.l
