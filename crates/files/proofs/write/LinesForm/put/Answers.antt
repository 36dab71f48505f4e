use Rattle.std.proofs.Common.{w32}
use mir.Facts.{to_z-of_z}
use Rattle.files.proofs.write.LinesForm.put.Goals as goal

pub arc_line-requires-clause-room : goal.arc_line-requires-clause-room
arc_line-requires-clause-room c = rw (to_z-of_z {w = w32} c.ranges.delay) c.requires.room

pub returns : goal.returns
returns c = rw (to_z-of_z {w = w32} c.ranges.delay) at c.arc_line.ensures
