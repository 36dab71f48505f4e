-- The share tries that are left of a round: before the pairs of a, or before a, b.
use mathlib.Core.Path.{◌≡◌, refl, sym, ap, ◌∙◌}
use mathlib.Core.Logic.{◌≢◌}
use mathlib.Core.List.{List, [], ◌∷◌, ◌++◌}
use Prim.Native.Nat.{ℕ, suc, ◌+◌, ◌-◌, ◌≤◌, ◌<◌}
use native.Mathlib.Numerals.{add-one}
use native.Mathlib.Omega.{arith}
use lib.Dec.{eqb}
use Rattle.laws.proofs.Booleans.{eqb_same, eqb_other}
use Rattle.reduction.specs.Run.{Try, numbers, pairs_with, pairs}

module _ (f : ℕ → ℕ → Try) (from count : ℕ) where
  abbrev end : ℕ
  end = from + count

  abbrev pub firsts_left : ℕ → List Try
  firsts_left a = pairs f (numbers a (from + count - a)) (numbers from count)

  abbrev pub seconds_left : ℕ → ℕ → List Try
  seconds_left a b = pairs_with f a (numbers b (from + count - b)) ++ firsts_left (a + 1)

  next : (x : ℕ) → x < from + count → numbers x (from + count - x) ≡ x ∷ numbers (x + 1) (from + count - (x + 1))
  next x l =
      let e : from + count - x ≡ suc (from + count - (x + 1)) = omega arith in
      ap (numbers x) e ∙ ap (λ (y : ℕ). x ∷ numbers y (from + count - (x + 1))) (sym (add-one x))

  none : (x : ℕ) → from + count ≤ x → numbers x (from + count - x) ≡ []
  none x l = let e : from + count - x ≡ 0 = omega arith in ap (numbers x) e

  pub firsts_done : (a : ℕ) → from + count ≤ a → firsts_left a ≡ []
  firsts_done a l = ap (λ (xs : List ℕ). pairs f xs (numbers from count)) (none a l)

  pub seconds_all : (a : ℕ) → a < from + count → firsts_left a ≡ seconds_left a from
  seconds_all a l =
      let e : count ≡ from + count - from = omega arith in
      ap (λ (xs : List ℕ). pairs f xs (numbers from count)) (next a l) ∙ ap (λ (c : ℕ). pairs_with f a (numbers from c) ++ firsts_left (a + 1)) e

  pub seconds_done : (a b : ℕ) → from + count ≤ b → seconds_left a b ≡ firsts_left (a + 1)
  seconds_done a b l = ap (λ (xs : List ℕ). pairs_with f a xs ++ firsts_left (a + 1)) (none b l)

  pub seconds_same : (a b : ℕ) → b < from + count → a ≡ b → seconds_left a b ≡ seconds_left a (b + 1)
  seconds_same a b l e =
      let same : eqb a b ≡ eqb b b = ap (λ (x : ℕ). eqb x b) e in
      ap (λ (xs : List ℕ). pairs_with f a xs ++ firsts_left (a + 1)) (next b l)
      ∙ rw (same ∙ eqb_same b) refl

  pub seconds_other : (a b : ℕ) → b < from + count → a ≢ b → seconds_left a b ≡ f a b ∷ seconds_left a (b + 1)
  seconds_other a b l ne = ap (λ (xs : List ℕ). pairs_with f a xs ++ firsts_left (a + 1)) (next b l) ∙ rw (eqb_other a b ne) refl
