use Rattle.std.proofs.Common.{sym}
use Rattle.records.proofs.Appending.{puts_same}
use Rattle.files.proofs.ArcForms.{held_fits, held_text}
use Rattle.files.proofs.write.put_cell.Goals as goal

pub put-requires-clause-delay_in_range : goal.put-requires-clause-delay_in_range
put-requires-clause-delay_in_range g c = held_fits c.args.cell c.ranges.cell c.if-is_arc.ensures c.requires.cell_in_range

pub put-requires-clause-room : goal.put-requires-clause-room
put-requires-clause-room g c = rw (held_text c.args.cell c.ranges.cell c.if-is_arc.ensures g.F.Form.text c.args.u c.args.v) at c.requires.room

pub returns-then-is_arc : goal.returns-then-is_arc
returns-then-is_arc g c = puts_same (sym (held_text c.args.cell c.ranges.cell c.if-is_arc.ensures g.F.Form.text c.args.u c.args.v)) c.put.ensures
