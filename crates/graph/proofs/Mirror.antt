-- The mirror image turns the lesser into the greater and a difference into a sum, and is its own inverse.
use mathlib.Core.Path.{◌≡◌, refl, sym, ap, ap₂, ◌∙◌}
use mathlib.Core.Bool.{Bool, true, false, cond}
use Prim.Native.Nat.{ℕ, zero, suc, ◌<◌}
use native.Mathlib.Omega.{arith}
use lib.Dec.{T}
use lib.IntN.{ℤ, neg_ℤ, ◌-ℤ◌}
use lib.Signed.{lt_z, ◌<ℤ◌}
use Rattle.laws.specs.Integers.{max_z, min_z}
use Rattle.laws.proofs.Linear.{zarith, sum, dif, neg, lt_z→}
use Rattle.laws.proofs.Truth.{same_truth}
use Rattle.graph.specs.Delay.{Delay, absent, at, ◌⋓◌, ◌⋏◌, ◌⊕◌, ◌⊖◌, mirror, greatest, smallest}
use Rattle.graph.proofs.Span.{InSpan}

pub mirror_twice : (x : Delay) → mirror (mirror x) ≡ x
mirror_twice absent = refl
mirror_twice (at a) = ap at (omega (zarith, neg a, neg (neg_ℤ a)))

-- two delays with the same mirror image
pub same_mirror : {x y : Delay} → mirror x ≡ mirror y → x ≡ y
same_mirror {x} {y} e = sym (mirror_twice x) ∙ ap mirror e ∙ mirror_twice y

neg_lt : (a b : ℤ) → lt_z (neg_ℤ a) (neg_ℤ b) ≡ lt_z b a
neg_lt a b = same_truth (lt_z (neg_ℤ a) (neg_ℤ b)) (lt_z b a) (λ t. (down t).lt) (λ t. (back t).lt)
  where
    down : T (lt_z (neg_ℤ a) (neg_ℤ b)) → b <ℤ a
    down t = omega (zarith, lt_z→ (neg_ℤ a) (neg_ℤ b) t, neg a, neg b)

    back : T (lt_z b a) → neg_ℤ a <ℤ neg_ℤ b
    back t = omega (zarith, lt_z→ b a t, neg a, neg b)

neg-min : (a b : ℤ) → neg_ℤ (min_z a b) ≡ max_z (neg_ℤ a) (neg_ℤ b)
unfolding max_z min_z
neg-min a b = sym (ap (λ (c : Bool). cond c (neg_ℤ b) (neg_ℤ a)) (neg_lt a b) ∙ push (lt_z b a))
  where
    push : (c : Bool) → cond c (neg_ℤ b) (neg_ℤ a) ≡ neg_ℤ (cond c b a)
    push true = refl
    push false = refl

pub mirror-⋏ : (x y : Delay) → mirror (x ⋏ y) ≡ mirror x ⋓ mirror y
mirror-⋏ absent y = refl
mirror-⋏ (at a) absent = refl
mirror-⋏ (at a) (at b) = ap at (neg-min a b)

pub mirror-⊖ : (x y : Delay) → mirror (x ⊖ y) ≡ mirror x ⊕ y
mirror-⊖ absent y = refl
mirror-⊖ (at a) absent = refl
mirror-⊖ (at a) (at b) = ap at (omega (zarith, dif a b, neg (a -ℤ b), neg a, sum (neg_ℤ a) b))

pub mirror-smallest : (n : ℕ) (f : ℕ → Delay) → mirror (smallest n f) ≡ greatest n (λ i. mirror (f i))
unfolding smallest greatest
mirror-smallest zero f = refl
mirror-smallest (suc n) f = mirror-⋏ (smallest n f) (f n) ∙ ap (λ (d : Delay). d ⋓ mirror (f n)) (mirror-smallest n f)

pub smallest_ext : (n : ℕ) (f g : ℕ → Delay) → ((i : ℕ) → i < n → f i ≡ g i) → smallest n f ≡ smallest n g
unfolding smallest
smallest_ext zero f g h = refl
smallest_ext (suc n) f g h = ap₂ ◌⋏◌ (smallest_ext n f g (λ i l. h i (omega arith))) (h n (omega arith))

pub mirror_span : (c : ℕ) (x : Delay) → InSpan c x → InSpan c (mirror x)
mirror_span c absent p = tt
mirror_span c (at a) p = (omega (arith, neg a), omega (arith, neg a))
