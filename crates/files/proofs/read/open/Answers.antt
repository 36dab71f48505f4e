use Rattle.std.proofs.Common.{sym, ◌∙◌}
use Rattle.laws.proofs.Booleans.{true_is}
use Rattle.timing.proofs.Verdict.{error_is}
use Rattle.files.proofs.Opening.{refusal, opened-not, opened_on, opened_not-lent, opened_off}
use Rattle.files.proofs.read.open.Goals as goal

pub returns-then-not-fits : goal.returns-then-not-fits
returns-then-not-fits c = refusal _ (opened-not _ _ _ _ (sym c.fits.ensures ∙ c.if-not-fits.true))

pub returns-in_err-inputs : goal.returns-in_err-inputs
returns-in_err-inputs c =
    rw (error_is c.from_residual.result _ c.from_residual.ensures.1) (refusal _ (opened_off _ _ _ _ (true_is (sym c.fits.ensures ∙ c.if-not-fits.false)) _ _ (sym c.in_err-inputs.ensures)))

pub returns-in_err-table : goal.returns-in_err-table
returns-in_err-table c =
    rw (error_is c.from_residual-in_err-table.result _ c.from_residual-in_err-table.ensures.1)
    (opened_not-lent _ _ _ _ (true_is (sym c.fits.ensures ∙ c.if-not-fits.false)) _ _ _ (sym c.in_ok-inputs.ensures) _ c.in_err-table.ensures)

pub returns : goal.returns
returns c =
    opened_on _ _ _ _ (true_is (sym c.fits.ensures ∙ c.if-not-fits.false)) _ _ _ (sym c.in_ok-inputs.ensures) _ c.in_ok-table.ensures
