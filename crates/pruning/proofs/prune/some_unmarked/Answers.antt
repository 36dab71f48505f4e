use Rattle.std.proofs.Common.{sym, ◌∙◌}
use Rattle.laws.proofs.Somewhere.{some_zero, some_here, some_next}
use Rattle.pruning.proofs.MarkedRows.{row_said}
use Rattle.pruning.proofs.prune.some_unmarked.Goals as goal

pub loop-u-init : goal.loop-u-init
loop-u-init c = some_zero _

pub returns-then-row_unmarked : goal.returns-then-row_unmarked
returns-then-row_unmarked c =
    let n = c.args.table.now.board.vertices in
    let u = c.loop-u.u in
    let said = row_said n c.args.table.now.cells.now c.args.marks.now u c.args.table.now.room c.loop-u-test.true _ _ c.row.ensures c.row-in-loop-u.ensures in
    sym (some_here n _ u c.loop-u-test.true (sym said ∙ sym c.row_unmarked.ensures ∙ c.if-row_unmarked.true))

pub loop-u-preserved : goal.loop-u-preserved
loop-u-preserved c =
    let n = c.args.table.now.board.vertices in
    let u = c.loop-u.u in
    let said = row_said n c.args.table.now.cells.now c.args.marks.now u c.args.table.now.room c.loop-u-test.true _ _ c.row.ensures c.row-in-loop-u.ensures in
    some_next _ u c.loop-u.invariant (sym said ∙ sym c.row_unmarked.ensures ∙ c.if-row_unmarked.false)
