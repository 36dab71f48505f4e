-- Tests that say the same.
use mathlib.Core.Path.{◌≡◌, refl, ap, ◌∙◌}
use mathlib.Core.Bool.{Bool, true, false, ◌&&◌}
use lib.Dec.{T}

pub same_truth : (a b : Bool) → (T a → T b) → (T b → T a) → a ≡ b
same_truth true true f g = refl
same_truth true false f g = absurd (f tt)
same_truth false true f g = absurd (g tt)
same_truth false false f g = refl

pub no_first : (a b : Bool) → a ≡ false → a && b ≡ false
no_first a b e = ap (λ (x : Bool). x && b) e

pub and_end : (a : Bool) → (a && true) ≡ a
and_end true = refl
and_end false = refl

pub both : (a b : Bool) → a ≡ true → b ≡ true → a && b ≡ true
both a b e h = ap (λ (x : Bool). x && b) e ∙ h

pub yes_first : (a b : Bool) → a ≡ true → a && b ≡ b
yes_first a b e = ap (λ (x : Bool). x && b) e

pub no_second : (a b : Bool) → b ≡ false → a && b ≡ false
no_second true b e = e
no_second false b e = refl
