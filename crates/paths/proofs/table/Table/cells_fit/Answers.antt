use Rattle.std.proofs.Common.{sym, ◌∙◌, arith}
use Rattle.laws.proofs.Bounded.{every_none, every_more, every_broken}
use Rattle.timing.specs.Limits.{delay_limit, fits}
use Rattle.timing.specs.Checks.{cells_fit}
use Rattle.paths.proofs.Rows.{every_row}
use Rattle.paths.proofs.table.Table.cells_fit.Goals as goal

pub loop-u-init : goal.loop-u-init
loop-u-init c = every_none _

pub returns-then-not-row_fits : goal.returns-then-not-row_fits
unfolding cells_fit
returns-then-not-row_fits c =
    let e = every_row (fits delay_limit) c.args.self.now.board.vertices c.args.self.now.cells.now c.loop-u.u c.args.self.now.room c.loop-u-test.true in
    sym (every_broken _ _ c.loop-u.u c.loop-u-test.true (sym e ∙ rw c.row.ensures at (sym c.row_fits.ensures) ∙ c.if-not-row_fits.true))

pub loop-u-preserved : goal.loop-u-preserved
loop-u-preserved c =
    let e = every_row (fits delay_limit) c.args.self.now.board.vertices c.args.self.now.cells.now c.loop-u.u c.args.self.now.room c.loop-u-test.true in
    every_more _ _ c.loop-u.invariant (sym e ∙ rw c.row.ensures at (sym c.row_fits.ensures) ∙ c.if-not-row_fits.false)

pub returns : goal.returns
unfolding cells_fit
returns c = grind arith
