use Rattle.std.proofs.Common.{w32}
use Rattle.std.proofs.lemmas.Int.{to_z-of_z}
use Rattle.plans.proofs.sums.join.Goals as goal

pub sum-requires : goal.sum-requires
sum-requires c = simp (to_z-of_z w32 c.args.a c.ranges.a, to_z-of_z w32 c.args.b c.ranges.b) c.requires
