-- Lists of c parts from v on, as a loop over the parts meets them; and what is left to write of them.
use mathlib.Core.Path.{◌≡◌, ap, ◌∙◌}
use mathlib.Core.List.{List, [], ◌++◌}
use Prim.Native.Nat.{ℕ, zero, suc, ◌+◌, ◌-◌, ◌≤◌, ◌<◌}
use native.Mathlib.Omega.{arith}
use lib.ListN.{length, length-append}
use Rattle.laws.specs.Bounded.{sum}
use Rattle.laws.proofs.Sums.{sum_eq}

sum_first : (n : ℕ) (f : ℕ → ℕ) → sum (suc n) f ≡ f 0 + sum n (λ i. f (suc i))
unfolding sum
sum_first zero f = omega arith
sum_first (suc n) f = omega (arith, sum_first n f)

pub record Parts {A : Type 0} (part : ℕ → List A) (from : ℕ → ℕ → List A) : Type 0 where
  pub none : (v : ℕ) → from v 0 ≡ []
  pub next : (v c : ℕ) → from v (suc c) ≡ part v ++ from (suc v) c

module _ {A : Type 0} {part : ℕ → List A} {from : ℕ → ℕ → List A} (ps : Parts part from) where
  -- a turn takes the first part
  turn : (v n : ℕ) → v < n → from v (n - v) ≡ part v ++ from (v + 1) (n - (v + 1))
  turn v n l =
      let e : n - v ≡ suc (n - (v + 1)) = omega arith in
      let e' : suc v ≡ v + 1 = omega arith in
      ap (from v) e ∙ ps.next v (n - (v + 1)) ∙ ap (λ (k : ℕ). part v ++ from k (n - (v + 1))) e'

  turns_over : (v n : ℕ) → n ≤ v → from v (n - v) ≡ []
  turns_over v n l = let e : n - v ≡ 0 = omega arith in ap (from v) e ∙ ps.none v

  pub turns_length : (v c : ℕ) → length (from v c) ≡ sum c (λ i. length (part (v + i)))
  unfolding sum
  turns_length v zero = ap length (ps.none v)
  turns_length v (suc c) =
      let first : length (part v) ≡ length (part (v + 0)) = ap (λ (k : ℕ). length (part k)) (omega arith) in
      omega (
        arith,
        ap length (ps.next v c),
        length-append (part v) (from (suc v) c),
        turns_length (suc v) c,
        first,
        sum_eq c (λ i. length (part (suc v + i))) (λ i. length (part (v + suc i))) (λ i l. ap (λ (k : ℕ). length (part k)) (omega arith)),
        sum_first c (λ i. length (part (v + i))),
      )

-- a list written member by member
pub record Joins {A B : Type 0} (write : List A → List B) : Type 0 where
  pub none : write [] ≡ []
  pub more : (xs ys : List A) → write (xs ++ ys) ≡ write xs ++ write ys

-- what is left at turn v of n
abbrev pub left : {A B : Type 0} → (List A → List B) → (ℕ → ℕ → List A) → ℕ → ℕ → List B
left write from n v = write (from v (n - v))

module _ {A B : Type 0} {write : List A → List B} (w : Joins write) {part : ℕ → List A} {from : ℕ → ℕ → List A} (ps : Parts part from) (n v : ℕ) where
  pub left_next : v < n → left write from n v ≡ write (part v) ++ left write from n (v + 1)
  left_next l = ap write (turn ps v n l) ∙ w.more (part v) (from (v + 1) (n - (v + 1)))

  pub left_none : n ≤ v → left write from n v ≡ []
  left_none l = ap write (turns_over ps v n l) ∙ w.none
