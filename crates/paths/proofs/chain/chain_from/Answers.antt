use Rattle.std.proofs.Common.{◌≡◌, T, get_or, pos, w32, to_z, of_z, sym, arith}
use Rattle.std.proofs.lemmas.Int.{to_z-of_z}
use mathlib.Core.Path.{subst}
use Rattle.graph.specs.Delay.{Delay}
use Rattle.timing.specs.Limits.{delay_limit, absent_cell, fits}
use Rattle.timing.specs.Table.{read_cell, graph_of}
use Rattle.timing.proofs.Checks.{sound_fits}
use Rattle.paths.proofs.Rows.{row_at_cell}
use Rattle.paths.proofs.Tables.{checked_table}
use Rattle.paths.proofs.Chaining.{row_near, chained_by}
use Rattle.paths.proofs.chain.chain_from.Goals as goal

pub chain_row-requires-clause-row_near : goal.chain_row-requires-clause-row_near
chain_row-requires-clause-row_near c = rw (c.requires.chain_len, c.row-row.ensures) (row_near (checked_table c.args.sorted.now.table c.args.sorted.now.sound) c.args.u c.requires.u_lt_vertices)

pub chain_row-requires-clause-next_near : goal.chain_row-requires-clause-next_near
chain_row-requires-clause-next_near c = rw (c.requires.chain_len, c.row-next.ensures) (row_near (checked_table c.args.sorted.now.table c.args.sorted.now.sound) c.args.w c.requires.w_lt_vertices)

pub chain_row-requires-clause-d_fits : goal.chain_row-requires-clause-d_fits
chain_row-requires-clause-d_fits c =
    let n = c.args.sorted.now.table.board.vertices in
    let t = c.args.sorted.now.table.cells.now in
    let row = row_at_cell n t c.args.u c.args.w c.requires.u_lt_vertices c.requires.w_lt_vertices in
    let d : read_cell absent_cell (to_z w32 (of_z w32 (get_or c.row-row.result.now c.args.w (pos 0)))) ≡ graph_of n t c.args.u c.args.w = grind (arith, to_z-of_z) in
    subst (λ (x : Delay). T (fits delay_limit x)) (sym d) (sound_fits c.args.sorted.now.sound c.args.u c.args.w)

pub returns : goal.returns
returns c =
    let n = c.args.sorted.now.table.board.vertices in
    let t = c.args.sorted.now.table.cells.now in
    let row = row_at_cell n t c.args.u c.args.w c.requires.u_lt_vertices c.requires.w_lt_vertices in
    let d : read_cell absent_cell (to_z w32 (of_z w32 (get_or c.row-row.result.now c.args.w (pos 0)))) ≡ graph_of n t c.args.u c.args.w = grind (arith, to_z-of_z) in
    chained_by (checked_table c.args.sorted.now.table c.args.sorted.now.sound) c.args.u c.args.w c.requires.u_lt_vertices c.requires.w_lt_vertices
    (rw (c.requires.chain_len, d, c.row-row.ensures, c.row-next.ensures) at c.chain_row.ensures)
