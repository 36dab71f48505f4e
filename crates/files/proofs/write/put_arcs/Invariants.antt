use Rattle.std.specs.List.{flat_map}
use Rattle.format.specs.Arcs.{arcs_between}
use Rattle.paths.specs.Board.{graph_in}
use Rattle.records.proofs.Remaining.{Remains}
use Rattle.files.specs.Forms.{table_as}
use Rattle.files.proofs.Turns.{left}
use Rattle.files.proofs.write.put_arcs.Given as goal

abbrev pub invariant-loop-u : goal.invariant-loop-u
invariant-loop-u g l =
    Remains (table_as g.F.Form.text l.table.board l.table.cells.now) l.initial.w (left (flat_map g.F.Form.text) (arcs_between l.table.board.vertices (graph_in l.table.board l.table.cells.now)) l.table.board.vertices l.u) l.w
