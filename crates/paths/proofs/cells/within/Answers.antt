use Rattle.std.proofs.lemmas.Int.{to_z-of_z}
use Rattle.paths.proofs.ReadCells.{between_arc}
use Rattle.paths.proofs.cells.within.Goals as goal
use Rattle.std.proofs.Common.{arith}

pub returns-then-low-x : goal.returns-then-low-x
returns-then-low-x c = grind (arith, to_z-of_z, between_arc)

pub returns-else-low-x : goal.returns-else-low-x
returns-else-low-x c = grind (arith, to_z-of_z, between_arc)
