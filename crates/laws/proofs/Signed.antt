-- Signed numbers as the code has them: a number of width w is held as its bits, `of_z w`, and read back by `to_z w`.
use mathlib.Core.Path.{◌≡◌, sym, ap, ◌∙◌, subst}
use mathlib.Core.Logic.{◌≢◌}
use mathlib.Core.Bool.{Bool, true, false, not}
use Prim.Native.Nat.{◌^◌, ◌<◌}
use lib.Dec.{T}
use lib.IntN.{ℤ}
use lib.Signed.{◌≤ℤ◌, ◌<ℤ◌, le_z, lt_z, lt_z_yes, lt_z_no, mag}
use mir.Syntax.{Width, w32, w64}
use mir.Val.{SFits, to_z, of_z, hbits}
use mir.Facts.{to_z-of_z}
use Rattle.laws.proofs.Linear.{zarith, zneeds}
use Rattle.laws.proofs.Booleans.{is_true, is_false}

-- a number that was read out of a slice
pub back : (w : Width) (z : ℤ) → mag z < 2 ^ hbits w → to_z w (of_z w z) ≡ z
back w z g = to_z-of_z (record { sfits = g })

-- a call's result that is handed on
pub handed : (w : Width) {r z : ℤ} → r ≡ z → SFits w z → to_z w (of_z w r) ≡ z
handed w e f = ap (λ (y : ℤ). to_z w (of_z w y)) e ∙ to_z-of_z f

-- a comparison of the code is one of bits
pub same_bits : {w : Width} {a b : ℤ} → SFits w a → SFits w b → of_z w a ≡ of_z w b → a ≡ b
same_bits {w} f g e = sym (to_z-of_z f) ∙ ap (to_z w) e ∙ to_z-of_z g

pub other_bits : (w : Width) {a b : ℤ} → (of_z w a ≡ of_z w b → ⊥) → a ≢ b
other_bits w h e = h (ap (of_z w) e)

pub less_yes : (a b : ℤ) → lt_z a b ≡ true → a <ℤ b
less_yes a b e = lt_z_yes {a = a} {b = b} (subst T (sym e) tt)

pub less_no : (a b : ℤ) → lt_z a b ≡ false → b ≤ℤ a
less_no a b e = lt_z_no {a = a} {b = b} (subst (λ (x : Bool). T (not x)) (sym e) tt)

pub widens : {z : ℤ} → SFits w32 z → SFits w64 z
widens h = omega zneeds

pub le_not_lt : (a b : ℤ) (t : Bool) → lt_z a b ≡ t → le_z b a ≡ not t
le_not_lt a b true e = is_false (le_z b a) (λ t. clash (record { le = t }) (less_yes a b e))
  where
    clash : b ≤ℤ a → a <ℤ b → ⊥
    clash h k = omega zarith
le_not_lt a b false e = is_true (le_z b a) (less_no a b e).le
