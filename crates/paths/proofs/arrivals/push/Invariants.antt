use Rattle.std.proofs.Common.{◌-◌, length, get_or, pos}
use Rattle.paths.proofs.Offering.{Walked}
use Rattle.paths.proofs.arrivals.push.Given as goal

abbrev pub invariant-loop-v : goal.invariant-loop-v
invariant-loop-v g l = Walked g.row.LANES (length l.row.cells.now) l.row.cells.now l.row.links.now (λ k. get_or l.a k (pos 0)) l.initial.f l.f l.v

abbrev pub decreases-loop-v : goal.decreases-loop-v
decreases-loop-v g l = length l.row.cells.now - l.v
