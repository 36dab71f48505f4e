use Rattle.std.proofs.Common.{arith, w32, ◌∙◌}
use Rattle.std.proofs.lemmas.Int.{to_z-of_z}
use Rattle.paths.specs.Board.{graph_in}
use Rattle.records.proofs.Remaining.{remains_fits, remains_next, remains_none}
use Rattle.paths.proofs.Tables.{checked_table}
use Rattle.files.proofs.Turns.{left_none}
use Rattle.files.proofs.ArcParts.{row_parts}
use Rattle.files.proofs.ArcForms.{arcs_join}
use Rattle.files.proofs.RowCells.{row_fits, row_next}
use Rattle.files.proofs.write.put_row.Goals as goal

pub put_cell-requires-clause-cell_in_range : goal.put_cell-requires-clause-cell_in_range
put_cell-requires-clause-cell_in_range g c = row_fits (checked_table c.args.table.now c.requires.sound) c.args.u c.loop-v.v c.requires.u_lt_vertices c.loop-v-test.true (to_z-of_z w32 _ (record { sfits = c.cell.type_inv }) ∙ c.cell.ensures)

pub put_cell-requires-clause-room : goal.put_cell-requires-clause-room
put_cell-requires-clause-room g c =
    remains_fits c.loop-v.invariant c.requires.room _ _ (row_next (checked_table c.args.table.now c.requires.sound) c.args.u c.loop-v.v c.requires.u_lt_vertices c.loop-v-test.true (to_z-of_z w32 _ (record { sfits = c.cell.type_inv }) ∙ c.cell.ensures) g.F.Form.text)

pub loop-v-preserved : goal.loop-v-preserved
loop-v-preserved g c =
    remains_next c.loop-v.invariant (row_next (checked_table c.args.table.now c.requires.sound) c.args.u c.loop-v.v c.requires.u_lt_vertices c.loop-v-test.true (to_z-of_z w32 _ (record { sfits = c.cell.type_inv }) ∙ c.cell.ensures) g.F.Form.text) c.put_cell.ensures

pub returns : goal.returns
returns g c =
    remains_none c.loop-v.invariant (left_none (arcs_join g.F.Form.text) (row_parts (graph_in c.args.table.now.board c.args.table.now.cells.now) c.args.u) c.args.table.now.board.vertices c.loop-v.v (omega arith))
