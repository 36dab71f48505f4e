use Rattle.std.proofs.Common.{length, ◌-◌}
use Rattle.files.specs.Loads.{loads_of}
use Rattle.files.proofs.PlacingArcs.{Placing}
use Rattle.files.proofs.place.place.Given as goal

abbrev pub invariant-loop-arc : goal.invariant-loop-arc
invariant-loop-arc l = Placing l.library.cells.now l.n l.bytes (loads_of l.loads) l.fn.table l.table l.at

abbrev pub decreases-loop-arc : goal.decreases-loop-arc
decreases-loop-arc l = length l.bytes - l.at
