-- A call's promise, with only the number of its answer.
use mathlib.Core.Path.{◌≡◌, sym, ap, ◌∙◌}
use Prim.Native.Nat.{ℕ}
use Rattle.timing.specs.Refusal.{Verdict, Answers}
use Rattle.timing.proofs.Verdict.{said}
use Rattle.meter.specs.Answers.{number_of, Measures}

-- x is the call's answer, known to be y
pub measured : {R A L : Type 0} {meaning : R → L → Verdict A} {part : A → L} {v : Verdict A} {before after : L} {x y : R} → Answers meaning part v before after x → x ≡ y
    → {r : ℕ} → r ≡ number_of (meaning y after) → Measures part v before after r
measured {R} {meaning = meaning} {after = after} h e n = record { number = n ∙ ap number_of (sym (said (λ (z : R). meaning z after) h.answer e)); left = h.left }
