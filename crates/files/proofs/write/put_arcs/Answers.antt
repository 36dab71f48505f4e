use Rattle.std.proofs.Common.{arith}
use Rattle.paths.specs.Board.{graph_in}
use Rattle.records.proofs.Remaining.{remains_fits, remains_next, remains_none}
use Rattle.files.proofs.Turns.{left_next, left_none}
use Rattle.files.proofs.ArcParts.{rows_parts}
use Rattle.files.proofs.ArcForms.{arcs_join}
use Rattle.files.proofs.write.put_arcs.Goals as goal

pub put_row-requires-clause-room : goal.put_row-requires-clause-room
put_row-requires-clause-room g c =
    let n = c.args.table.now.board.vertices in
    remains_fits c.loop-u.invariant c.requires.room _ _ (left_next (arcs_join g.F.Form.text) (rows_parts n (graph_in c.args.table.now.board c.args.table.now.cells.now)) n c.loop-u.u (omega arith))

pub loop-u-preserved : goal.loop-u-preserved
loop-u-preserved g c =
    let n = c.args.table.now.board.vertices in
    remains_next c.loop-u.invariant (left_next (arcs_join g.F.Form.text) (rows_parts n (graph_in c.args.table.now.board c.args.table.now.cells.now)) n c.loop-u.u (omega arith)) c.put_row.ensures

pub returns : goal.returns
returns g c =
    let n = c.args.table.now.board.vertices in
    remains_none c.loop-u.invariant (left_none (arcs_join g.F.Form.text) (rows_parts n (graph_in c.args.table.now.board c.args.table.now.cells.now)) n c.loop-u.u (omega arith))
