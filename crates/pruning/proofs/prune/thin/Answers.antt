use Rattle.std.proofs.Common.{◌≡◌, arith}
use Rattle.laws.proofs.Filling.{rows_none, row_lent, row_back}
use Rattle.timing.specs.Table.{with_graph}
use Rattle.pruning.proofs.MarkedRows.{thin_cell, row_thinned}
use Rattle.pruning.proofs.prune.thin.Goals as goal

pub loop-u-init : goal.loop-u-init
loop-u-init c = rows_none _ _ _

pub loop-u-preserved : goal.loop-u-preserved
loop-u-preserved c =
    let n = c.args.board.vertices in
    let t = c.args.table.now in
    let marks = c.args.marks.now in
    let l = c.loop-u in
    let lent = row_lent n (thin_cell n t marks) t l.table l.u l.invariant in
    row_back n (thin_cell n t marks) t l.table l.u l.invariant c.thin_row.new.row
    (row_thinned n t marks l.u c.requires.lent c.requires.marks_room c.loop-u-test.true _ lent c.thin_row.ensures)

pub returns : goal.returns
unfolding with_graph
returns c =
    let l = c.loop-u in
    let m : l.u ≡ c.args.board.vertices = omega arith in
    rw m at l.invariant
