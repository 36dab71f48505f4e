use Rattle.std.proofs.Common.{refl, sym, ◌∙◌}
use Rattle.timing.proofs.Verdict.{error_is}
use Rattle.paths.proofs.Checking.{memory_refused, odd_cell, arcs_refused, arcs_sound, all_passed}
use Rattle.paths.proofs.checks.checked.Goals as goal

pub returns-in_err-table : goal.returns-in_err-table
returns-in_err-table c = rw (error_is c.from_residual.result _ c.from_residual.ensures.1) (memory_refused _ _ _ _ _ _ c.in_err-table.ensures)

pub returns-then-not-cells_fit : goal.returns-then-not-cells_fit
returns-then-not-cells_fit c = odd_cell _ _ _ _ _ _ c.in_ok-table.ensures (sym c.cells_fit.ensures ∙ c.if-not-cells_fit.true)

pub returns-in_err-order : goal.returns-in_err-order
returns-in_err-order c =
    rw (error_is c.from_residual-in_err-order.result _ c.from_residual-in_err-order.ensures.1)
    (arcs_refused _ _ _ _ _ _ c.in_ok-table.ensures (sym c.cells_fit.ensures ∙ c.if-not-cells_fit.false) _ c.in_err-order.ensures)

pub invariant_of-result : goal.invariant_of-result
invariant_of-result c = record {
  sound = arcs_sound _ _ _ _ _ _ c.in_ok-table.ensures (sym c.cells_fit.ensures ∙ c.if-not-cells_fit.false) _ c.in_ok-order.ensures;
  rises = c.in_ok-order.ensures.order _ refl;
}

pub returns : goal.returns
returns c = all_passed _ _ _ _ _ _ c.in_ok-table.ensures (sym c.cells_fit.ensures ∙ c.if-not-cells_fit.false) _ c.in_ok-order.ensures _ refl
