-- Lists of vertices walked from the front: after i turns `drop i xs` is left.
use mathlib.Core.Path.{◌≡◌, refl, sym, ap, ◌∙◌}
use mathlib.Core.Bool.{Bool, true, false, not, ◌&&◌, ◌||◌}
use mathlib.Core.List.{List, [], ◌∷◌}
use Prim.Native.Nat.{ℕ, zero, suc, ◌+◌, ◌≤◌, ◌<◌}
use native.Mathlib.Nat.{not-suc-le-zero}
use native.Mathlib.Numerals.{add-one}
use native.Mathlib.Omega.{arith}
use lib.Dec.{T, eqb, eqb→eq, ltb, ltb→lt, lt→ltb}
use lib.ListN.{length, get_or, drop, drop_of_length-le}
use lib.Seq.{drop-cons}
use Rattle.std.specs.List.{list_all, list_any, slice_range}
use Rattle.std.proofs.lemmas.List.{take_rest}
use Rattle.std.proofs.lemmas.List.Recursion.{same_from_clauses}
use Rattle.laws.specs.Bounded.{each, member}
use Rattle.laws.proofs.Booleans.{is_true, is_false, and_i, and_e, or_l, or_r, eq→eqb}
use Rattle.laws.proofs.Bounded.{each_at}
use Rattle.reduction.specs.Star.{non_empty, distinct}
use Rattle.stars.specs.Members.{sum_over}
use Rattle.stars.specs.StarReady.{below}
use Rattle.laws.proofs.Truth.{same_truth}

pub rest : (xs : List ℕ) (i : ℕ) → i < length xs → drop i xs ≡ get_or xs i 0 ∷ drop (i + 1) xs
rest xs i l = drop-cons xs i 0 l ∙ ap (λ (k : ℕ). get_or xs i 0 ∷ drop k xs) (sym (add-one i))

-- one turn: the place that is looked at
module _ (xs : List ℕ) (i : ℕ) (l : i < length xs) where
  pub each_pass : (f : ℕ → Bool) → f (get_or xs i 0) ≡ true → each (drop i xs) f ≡ each (drop (i + 1) xs) f
  unfolding each
  each_pass f e = ap (λ (ys : List ℕ). each ys f) (rest xs i l) ∙ ap (λ (b : Bool). b && each (drop (i + 1) xs) f) e

  pub each_stop : (f : ℕ → Bool) → f (get_or xs i 0) ≡ false → each (drop i xs) f ≡ false
  unfolding each
  each_stop f e = ap (λ (ys : List ℕ). each ys f) (rest xs i l) ∙ ap (λ (b : Bool). b && each (drop (i + 1) xs) f) e

  pub member_pass : (x : ℕ) → eqb x (get_or xs i 0) ≡ false → member x (drop i xs) ≡ member x (drop (i + 1) xs)
  unfolding member
  member_pass x e = ap (member x) (rest xs i l) ∙ ap (λ (b : Bool). b || member x (drop (i + 1) xs)) e

  pub member_stop : (x : ℕ) → eqb x (get_or xs i 0) ≡ true → member x (drop i xs) ≡ true
  unfolding member
  member_stop x e = ap (member x) (rest xs i l) ∙ ap (λ (b : Bool). b || member x (drop (i + 1) xs)) e

  pub distinct_pass : member (get_or xs i 0) (drop (i + 1) xs) ≡ false → distinct (drop i xs) ≡ distinct (drop (i + 1) xs)
  distinct_pass e = ap distinct (rest xs i l) ∙ ap (λ (b : Bool). not b && distinct (drop (i + 1) xs)) e

  pub distinct_stop : member (get_or xs i 0) (drop (i + 1) xs) ≡ true → distinct (drop i xs) ≡ false
  distinct_stop e = ap distinct (rest xs i l) ∙ ap (λ (b : Bool). not b && distinct (drop (i + 1) xs)) e

  pub sum_over_turn : (f : ℕ → ℕ) → sum_over (drop i xs) f ≡ f (get_or xs i 0) + sum_over (drop (i + 1) xs) f
  unfolding sum_over
  sum_over_turn f = ap (λ (ys : List ℕ). sum_over ys f) (rest xs i l)

-- the end
module _ (xs : List ℕ) (i : ℕ) (l : length xs ≤ i) where
  pub each_end : (f : ℕ → Bool) → each (drop i xs) f ≡ true
  unfolding each
  each_end f = ap (λ (ys : List ℕ). each ys f) (drop_of_length-le xs l)

  pub member_end : (x : ℕ) → member x (drop i xs) ≡ false
  unfolding member
  member_end x = ap (member x) (drop_of_length-le xs l)

  pub distinct_end : distinct (drop i xs) ≡ true
  distinct_end = ap distinct (drop_of_length-le xs l)

  pub sum_over_end : (f : ℕ → ℕ) → sum_over (drop i xs) f ≡ 0
  unfolding sum_over
  sum_over_end f = ap (λ (ys : List ℕ). sum_over ys f) (drop_of_length-le xs l)

-- ---- members by their places

pub member_at : (xs : List ℕ) (i : ℕ) → i < length xs → T (member (get_or xs i 0) xs)
unfolding member
member_at [] i l = absurd (not-suc-le-zero l)
member_at (x ∷ xs) zero l = or_l (eqb x x) (member x xs) (eq→eqb x x refl)
member_at (x ∷ xs) (suc i) l = or_r (eqb (get_or xs i 0) x) (member (get_or xs i 0) xs) (member_at xs i (omega arith))

pub below-member : (N : ℕ) (xs : List ℕ) → T (below N xs) → (x : ℕ) → T (member x xs) → x < N
unfolding below
below-member N xs t x m = ltb→lt x N (each_at xs (λ x. ltb x N) t x m)

pub below_at : (N : ℕ) (xs : List ℕ) → T (below N xs) → (i : ℕ) → i < length xs → get_or xs i 0 < N
below_at N xs t i l = below-member N xs t (get_or xs i 0) (member_at xs i l)

pub is_below : (x n : ℕ) → x < n → ltb x n ≡ true
is_below x n h = is_true (ltb x n) (lt→ltb x n h)

pub not-below : (x n : ℕ) → n ≤ x → ltb x n ≡ false
not-below x n h = is_false (ltb x n) (λ t. omega (arith, ltb→lt x n t))

pub none : (xs : List ℕ) → length xs ≡ 0 → non_empty xs ≡ false
none [] e = refl
none (x ∷ xs) e = absurd (omega arith)

pub one : (xs : List ℕ) → 0 < length xs → non_empty xs ≡ true
one [] h = absurd (not-suc-le-zero h)
one (x ∷ xs) h = refl

pub some-member : (xs : List ℕ) → T (non_empty xs) → 0 < length xs
some-member [] t = absurd t
some-member (x ∷ xs) t = omega arith

pub below_wider : (m n : ℕ) (xs : List ℕ) → m ≤ n → T (below m xs) → T (below n xs)
unfolding below each
below_wider m n [] h t = tt
below_wider m n (x ∷ xs) h t =
    let p = and_e (ltb x m) (below m xs) t in
    and_i (ltb x n) (below n xs) (lt→ltb x n (omega (arith, ltb→lt x m p.0))) (below_wider m n xs h p.1)

-- ---- as std's tests

pub each_is : (f : ℕ → Bool) (xs : List ℕ) → list_all f xs ≡ each xs f
unfolding each
each_is f = same_from_clauses (list_all f) (λ xs. each xs f) (λ x b. f x && b) refl (λ _ _. refl) (λ _ _. refl)

pub below_is : (n : ℕ) (xs : List ℕ) → list_all (λ x. ltb x n) xs ≡ below n xs
unfolding below
below_is n = each_is (λ x. ltb x n)

-- whether x stands in the list from place i on
pub found_is : (x : ℕ) (xs : List ℕ) (i : ℕ) → list_any (λ y. eqb y x) (slice_range xs i (length xs)) ≡ member x (drop i xs)
unfolding member
found_is x xs i =
    ap (list_any (λ y. eqb y x)) (take_rest xs i)
    ∙ same_from_clauses (list_any (λ y. eqb y x)) (member x) (λ y b. eqb x y || b) refl (λ y ys. ap (λ (b : Bool). b || list_any (λ y. eqb y x) ys) (turned y)) (λ _ _. refl) (drop i xs)
  where
    turned : (y : ℕ) → eqb y x ≡ eqb x y
    turned y = same_truth (eqb y x) (eqb x y) (λ t. eq→eqb x y (sym (eqb→eq y x t))) (λ t. eq→eqb y x (sym (eqb→eq x y t)))
