use Rattle.paths.proofs.ReadCells.{cell_present}
use Rattle.paths.proofs.cells.is_arc.Goals as goal

pub returns : goal.returns
returns c = cell_present c.args.x c.ranges.x
