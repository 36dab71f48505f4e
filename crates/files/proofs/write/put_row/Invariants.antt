use Rattle.std.specs.List.{flat_map}
use Rattle.format.specs.Arcs.{row_arcs}
use Rattle.paths.specs.Board.{graph_in}
use Rattle.records.proofs.Remaining.{Remains}
use Rattle.files.specs.Forms.{row_as}
use Rattle.files.proofs.Turns.{left}
use Rattle.files.proofs.write.put_row.Given as goal

abbrev pub invariant-loop-v : goal.invariant-loop-v
invariant-loop-v g l =
    Remains (row_as g.F.Form.text l.table.board l.table.cells.now l.u) l.initial.w (left (flat_map g.F.Form.text) (row_arcs (graph_in l.table.board l.table.cells.now) l.u) l.table.board.vertices l.v) l.w
