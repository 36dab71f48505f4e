use Rattle.std.proofs.Common.{◌≡◌, sym, ap}
use Rattle.timing.specs.Refusal.{accepted}
use Rattle.timing.proofs.Verdict.{error_is}
use Rattle.paths.proofs.Checking.{call_refused}
use Rattle.paths.proofs.Answering.{call_is}
use Rattle.reduction.specs.FindStar.{find_star, find_star_call}
use Rattle.finder.specs.Finding.{found}
use Rattle.finder.proofs.calls.find_star.Goals as goal

pub returns-in_err-sorted : goal.returns-in_err-sorted
unfolding find_star_call
returns-in_err-sorted c =
    rw (error_is c.from_residual.result _ c.from_residual.ensures.1) (sym (call_refused _ _ _ _ _ _ c.in_err-sorted.ensures _))

pub returns : goal.returns
unfolding find_star_call
returns c = call_is (λ v. accepted (found c.find_star.result) ≡ v) (λ m n N g. accepted (find_star m n N g)) _ c.in_ok-sorted.ensures (ap accepted c.find_star.ensures)
