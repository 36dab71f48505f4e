-- Which of two vertices stands first, as a scan of the order finds it.
use mathlib.Core.Path.{◌≡◌}
use mathlib.Core.Logic.{◌≢◌}
use mathlib.Core.Bool.{Bool, true, false}
use mathlib.Core.List.{List}
use Prim.Native.Nat.{ℕ, suc, ◌≤◌, ◌<◌}
use native.Mathlib.Omega.{arith}
use borrow.Author.Tests.{lt-ltb, le-ltb}
use lib.Dec.{eqb}
use lib.ListN.{get_or}
use Rattle.laws.specs.Bounded.{first}
use Rattle.laws.proofs.Booleans.{T_true, eq→eqb, eqb_other}
use Rattle.laws.proofs.Bounded.{below_suc, first_none, first_found, first_above}
use Rattle.paths.specs.Order.{stands_before}

-- neither stands at a place below p
pub record Scanned (n : ℕ) (o : List ℕ) (a b p : ℕ) : Type 0 where
  pub upto : p ≤ n
  pub not_a : (j : ℕ) → j < p → get_or o j 0 ≢ a
  pub not_b : (j : ℕ) → j < p → get_or o j 0 ≢ b

abbrev is : List ℕ → ℕ → ℕ → Bool
is o v q = eqb (get_or o q 0) v

other : (o : List ℕ) (v p : ℕ) → ((j : ℕ) → j < p → get_or o j 0 ≢ v) → (j : ℕ) → j < p → is o v j ≡ false
other o v p h j l = eqb_other (get_or o j 0) v (h j l)

found : (n : ℕ) (o : List ℕ) (v p : ℕ) → ((j : ℕ) → j < p → get_or o j 0 ≢ v) → p < n → get_or o p 0 ≡ v → first n (is o v) ≡ p
found n o v p h l e = first_found n (is o v) p l (other o v p h) (T_true (eq→eqb (get_or o p 0) v e))

module _ {n : ℕ} {o : List ℕ} {a b p : ℕ} (s : Scanned n o a b p) where
  pub meets_b : p < n → get_or o p 0 ≡ b → stands_before n o a b ≡ false
  unfolding stands_before
  meets_b l e = le-ltb (first n (is o a)) (first n (is o b)) (omega (arith, found n o b p s.not_b l e, first_above n (is o a) p s.upto (other o a p s.not_a)))

  pub meets_a : p < n → get_or o p 0 ≡ a → get_or o p 0 ≢ b → stands_before n o a b ≡ true
  unfolding stands_before
  meets_a l e ne =
      lt-ltb (first n (is o a)) (first n (is o b))
      (omega (arith, found n o a p s.not_a l e, first_above n (is o b) (suc p) l (other o b (suc p) (below_suc (λ j. get_or o j 0 ≢ b) p s.not_b ne))))

  pub meets_none : n ≤ p → stands_before n o a b ≡ false
  unfolding stands_before
  meets_none h =
      le-ltb (first n (is o a)) (first n (is o b))
      (omega (arith, first_none n (is o a) (λ j l. other o a p s.not_a j (omega arith)), first_none n (is o b) (λ j l. other o b p s.not_b j (omega arith))))
