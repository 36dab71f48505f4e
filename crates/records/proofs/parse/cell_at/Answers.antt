use Rattle.std.proofs.Common.{sym, arith}
use Rattle.timing.proofs.Verdict.{error_is}
use Rattle.records.proofs.Ends.{ends_legal, cell_is}
use Rattle.records.proofs.parse.cell_at.Goals as goal

pub returns-in_err-u : goal.returns-in_err-u
returns-in_err-u c = rw (error_is c.from_residual.result _ c.from_residual.ensures.1) (sym (cell_is _ _ _ (sym c.in_err-u.ensures)))

pub bounds-bytes-at : goal.bounds-bytes-at
bounds-bytes-at c = omega (arith, (ends_legal _ _ _ 5 _ _ (sym c.in_ok-u.ensures)).0)

pub returns : goal.returns
returns c = sym (cell_is _ _ _ (sym c.in_ok-u.ensures))
