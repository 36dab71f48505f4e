use Rattle.std.proofs.Common.{List, ℕ, ◌++◌, ap, arith, length}
use Rattle.paths.specs.Board.{graph_in, sizes_of}
use Rattle.format.specs.Arcs.{arcs_of}
use Rattle.format.specs.Text.{board_line, arc_lines, counts_line}
use Rattle.files.proofs.ArcForms.{lines_are}
use Rattle.records.proofs.Appending.{puts_more, puts_same}
use Rattle.text.proofs.TextLengths.{parts_length}
use Rattle.text.proofs.put_reduced.Goals as goal

pub put_arcs-requires-clause-room : goal.put_arcs-requires-clause-room
put_arcs-requires-clause-room c =
    let b = c.args.table.now.board in
    let as' = arcs_of b.vertices (graph_in b c.args.table.now.cells.now) in
    omega (arith, ap length (lines_are as'), parts_length (board_line (sizes_of b)) (arc_lines as') (counts_line c.args.ran.steps c.args.ran.arcs))

pub counts_line-requires-clause-room : goal.counts_line-requires-clause-room
counts_line-requires-clause-room c =
    let b = c.args.table.now.board in
    let as' = arcs_of b.vertices (graph_in b c.args.table.now.cells.now) in
    omega (arith, ap length (lines_are as'), parts_length (board_line (sizes_of b)) (arc_lines as') (counts_line c.args.ran.steps c.args.ran.arcs))

pub returns : goal.returns
returns c =
    let b = c.args.table.now.board in
    puts_same (ap (λ (l : List ℕ). board_line (sizes_of b) ++ l ++ counts_line c.args.ran.steps c.args.ran.arcs) (lines_are (arcs_of b.vertices (graph_in b c.args.table.now.cells.now))))
    (puts_more (puts_more c.board_line.ensures c.put_arcs.ensures) c.counts_line.ensures)
