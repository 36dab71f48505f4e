use Rattle.std.proofs.Common.{arith}
use Rattle.paths.proofs.Lanes.{alone}
use Rattle.paths.proofs.Alone.{starts_alone, filled_alone, propagated_alone}
use Rattle.paths.proofs.arrivals.propagate.Goals as goal

pub propagate_each-requires-clause-room : goal.propagate_each-requires-clause-room
propagate_each-requires-clause-room c = omega (arith, c.requires.room)

pub propagate_each-requires-clause-starts : goal.propagate_each-requires-clause-starts
propagate_each-requires-clause-starts c = alone _ (starts_alone c.requires)

pub returns : goal.returns
returns c = filled_alone _ _ _ _ _ (propagated_alone _ _ c.args.f.now) (c.propagate_each.ensures.each_lane 0 (omega arith)) c.propagate_each.ensures.past
