use Rattle.std.proofs.Common.{◌≡◌, ap, arith, length, List, ℕ, ◌++◌, ◌∙◌, rules}
use Rattle.laws.proofs.Lists.{length-tabulate}
use Rattle.codec.specs.Bytes.{byte_of}
use Rattle.graph.proofs.Presence.{arcs_few}
use Rattle.paths.specs.Board.{graph_in}
use Rattle.paths.proofs.Sizes.{board_area}
use Rattle.format.specs.Arcs.{arcs_of}
use Rattle.std.specs.List.{flat_map}
use Rattle.format.specs.Writing.{arc_record, arc_records, end_record}
use Rattle.records.specs.Appending.{Appends}
use Rattle.records.specs.Writing.{Puts}
use Rattle.records.proofs.Appending.{puts_more, puts_same, appends_by}
use Rattle.files.specs.Writing.{board_mark, board_file}
use Rattle.files.proofs.ArcForms.{records_are}
use Rattle.files.proofs.ArcRecords.{all_records_length, file_parts, file_length}
use Rattle.files.proofs.write.put_file.Goals as goal

pub put_board-requires : goal.put_board-requires
put_board-requires c =
    let b = c.args.sorted.now.table.board in omega (arith, ap length c.new-w.ensures.bytes, file_length b.vertices (graph_in b c.args.sorted.now.table.cells.now) b.inputs b.outputs)

pub put_arcs-requires-clause-room : goal.put_arcs-requires-clause-room
put_arcs-requires-clause-room c =
    let b = c.args.sorted.now.table.board in
    let g = graph_in b c.args.sorted.now.table.cells.now in
    omega (arith, ap length c.new-w.ensures.bytes, ap length (records_are (arcs_of b.vertices g)), file_length b.vertices g b.inputs b.outputs, all_records_length b.vertices g)

pub put_end-requires-clause-count_bound : goal.put_end-requires-clause-count_bound
put_end-requires-clause-count_bound c =
    let b = c.args.sorted.now.table.board in omega (arith, arcs_few b.vertices (graph_in b c.args.sorted.now.table.cells.now), board_area b)

pub put_end-requires-clause-room : goal.put_end-requires-clause-room
put_end-requires-clause-room c =
    let b = c.args.sorted.now.table.board in
    let g = graph_in b c.args.sorted.now.table.cells.now in
    omega (arith, ap length c.new-w.ensures.bytes, ap length (records_are (arcs_of b.vertices g)), file_length b.vertices g b.inputs b.outputs, all_records_length b.vertices g, length-tabulate (byte_of c.args.count) 2)

pub returns : goal.returns
returns c =
    let b = c.args.sorted.now.table.board in
    let g = graph_in b c.args.sorted.now.table.cells.now in
    let p : Puts (board_mark b ++ flat_map arc_record (arcs_of b.vertices g) ++ end_record c.args.count) c.new-w.result c.put_end.new.w = puts_more (puts_more c.put_board.ensures c.put_arcs.ensures) c.put_end.ensures in
    let e : board_mark b ++ flat_map arc_record (arcs_of b.vertices g) ++ end_record c.args.count ≡ board_file b c.args.sorted.now.table.cells.now =
    ap (λ (l : List ℕ). board_mark b ++ l ++ end_record c.args.count) (records_are (arcs_of b.vertices g))
    ∙ ap (λ (k : ℕ). board_mark b ++ arc_records (arcs_of b.vertices g) ++ end_record k) c.requires.count_value
    ∙ file_parts b.vertices g b.inputs b.outputs in
    let run = p.same_run ∙ c.new-w.ensures.same_run in
    let left : (after : List ℕ) → after ≡ c.put_end.new.w.out.now → Appends (board_file b c.args.sorted.now.table.cells.now) c.args.out.now 0 after c.put_end.new.w.at =
    λ after q. appends_by (puts_same e p) c.new-w.ensures.bytes c.new-w.ensures.at q in
    search (rules, left)
