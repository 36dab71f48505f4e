use Rattle.std.proofs.Common.{arith}
use Rattle.graph.proofs.Presence.{arcs_few}
use Rattle.timing.specs.Table.{graph_of}
use Rattle.paths.proofs.Sizes.{board_area}
use Rattle.files.proofs.ArcRecords.{file_length}
use Rattle.files.proofs.FileAnswers.{file_short, file_done}
use Rattle.files.proofs.write.file_answer.Goals as goal

pub overflow_mul-count : goal.overflow_mul-count
overflow_mul-count c =
    let x = c.args.sorted.now.table in
    omega (arith, arcs_few x.board.vertices (graph_of x.board.vertices x.cells.now), board_area x.board)

pub overflow_add-count : goal.overflow_add-count
overflow_add-count c =
    let x = c.args.sorted.now.table in
    omega (arith, arcs_few x.board.vertices (graph_of x.board.vertices x.cells.now), board_area x.board)

pub returns-then-destination-count : goal.returns-then-destination-count
returns-then-destination-count c =
    let a = c.args in
    let b = a.sorted.now.table.board in
    let g = graph_of b.vertices a.sorted.now.table.cells.now in
    file_short b.inputs b.outputs b.vertices g a.destination.now (omega (arith, file_length b.vertices g b.inputs b.outputs))

pub put_file-requires-clause-room_for : goal.put_file-requires-clause-room_for
put_file-requires-clause-room_for c =
    let a = c.args in
    let b = a.sorted.now.table.board in
    omega (arith, file_length b.vertices (graph_of b.vertices a.sorted.now.table.cells.now) b.inputs b.outputs)

pub returns : goal.returns
returns c =
    let a = c.args in
    let b = a.sorted.now.table.board in
    let g = graph_of b.vertices a.sorted.now.table.cells.now in
    file_done b.inputs b.outputs b.vertices g a.destination.now (omega (arith, file_length b.vertices g b.inputs b.outputs)) c.put_file.ensures
