use Rattle.std.proofs.Common.{sym, ap, ◌∙◌, ◌+◌, length, arith, le-leb}
use Rattle.timing.proofs.Verdict.{error_is}
use Rattle.format.specs.declared.Record.TheVariants as R
use Rattle.format.specs.Records.{body, record_at}
use Rattle.records.proofs.Ends.{count_is}
use Rattle.records.proofs.parse.record_at.Goals as goal

pub returns-in_err-count_at-in-End : goal.returns-in_err-count_at-in-End
unfolding record_at
returns-in_err-count_at-in-End c =
    let a = c.args in
    rw (error_is c.from_residual.result _ c.from_residual.ensures.1)
    (simp (le-leb (a.at + 2) (length a.bytes.now) (omega arith))
    (sym (count_is R.End a.bytes.now a.at c.in_err-count_at-in-End.ensures) ∙ ap (body a.n a.bytes.now a.at) (sym c.in-End.is ∙ c.mark_at.ensures)))

pub returns-in_ok-count_at-in-End : goal.returns-in_ok-count_at-in-End
unfolding record_at
returns-in_ok-count_at-in-End c =
    let a = c.args in
    simp (le-leb (a.at + 2) (length a.bytes.now) (omega arith))
    (sym (count_is R.End a.bytes.now a.at c.in_ok-count_at-in-End.ensures) ∙ ap (body a.n a.bytes.now a.at) (sym c.in-End.is ∙ c.mark_at.ensures))
