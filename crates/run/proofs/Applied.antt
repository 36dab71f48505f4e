-- A step's answer as what its try does.
use Rattle.std.specs.Prelude.{Err, Ok, Result}
use Rattle.laws.proofs.Booleans.{true_is}
use Rattle.timing.specs.declared.Refusal.{Refusal}
use mathlib.Core.Path.{◌≡◌, sym, subst}
use mathlib.Core.Bool.{Bool, not}
use mathlib.Core.List.{List}
use lib.Dec.{T}
use lib.IntN.{ℤ}
use Rattle.timing.specs.Refusal.{Verdict, is_accepted, left_by}
use Rattle.reduction.specs.Steps.{Step}
use Rattle.paths.specs.declared.board.Board.{Board}
use Rattle.plans.specs.OnBoards.{Applies}
use Rattle.std.specs.Prelude.{is_ok}
use Rattle.run.specs.Running.{TriesStep}

applies_tries : (b : Board) (q : Step) (before after : List ℤ) (fit : Result (Unit {0}) Refusal) → Applies b q before after fit → TriesStep b q before after (is_ok fit)
applies_tries b q before after (Ok tt) h = record { taken = λ _. sym h.answer; refused = λ e. absurd (true_is (sym e)) }
applies_tries b q before after (Err x) h = record {
  taken = λ e. absurd (true_is e);
  refused = λ _. (subst (λ (y : Verdict (List ℤ)). T (not (is_accepted y))) h.answer tt, subst (λ (y : Verdict (List ℤ)). after ≡ left_by (λ x. x) y before) (sym h.answer) h.left);
}

pub applied_tries : (b : Board) (t : List ℤ) (q : Step) (after : List ℤ) (fit : Result (Unit {0}) Refusal) (r : Bool) → Applies b q t after fit → r ≡ is_ok fit → TriesStep b q t after r
applied_tries b t q after fit r h e = subst (TriesStep b q t after) (sym e) (applies_tries b q t after fit h)
