use Rattle.std.proofs.Common.{get_or, pos}
use Rattle.stars.specs.StarCells.{centre_cell}
use Rattle.stars.proofs.Rewriting.{Rewriting}
use Rattle.stars.proofs.star.CentreArcs.centre_row.Given as goal

abbrev pub invariant-loop-t : goal.invariant-loop-t
invariant-loop-t l = Rewriting l.self.targets.now (λ v. get_or l.fn.row v (pos 0)) (centre_cell l.fn.row l.self.first.now l.self.targets.now) l.row l.t-index
