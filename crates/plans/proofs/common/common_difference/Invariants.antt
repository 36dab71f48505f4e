use Rattle.std.proofs.Common.{◌≡◌, ◌≤◌, Ok, ◌-◌, length}
use Rattle.timing.specs.Delays.{arrival_in}
use Rattle.plans.specs.Comparing.{seen}
use Rattle.plans.proofs.common.common_difference.Given as goal

abbrev pub invariant-compare : goal.invariant-compare
invariant-compare l = record {
  within : l.j ≤ length l.xs;
  said : Ok l.seen ≡ seen l.j (arrival_in l.xs) (arrival_in l.ys);
}

abbrev pub decreases-compare : goal.decreases-compare
decreases-compare l = length l.xs - l.j
