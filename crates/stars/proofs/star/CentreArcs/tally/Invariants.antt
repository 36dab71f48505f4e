use Rattle.std.proofs.Common.{suc, ◌≤◌}
use Rattle.stars.proofs.Tally.{Tallied}
use Rattle.stars.proofs.star.CentreArcs.tally.Given as goal

abbrev pub invariant-loop-t : goal.invariant-loop-t
invariant-loop-t l = record {
  few : l.covered ≤ suc l.t-index;
  tallied : Tallied l.row l.self.first.now l.self.targets.now l.t-index l.least l.covered;
}
