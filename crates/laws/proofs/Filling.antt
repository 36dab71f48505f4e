-- A list that is filled from the front: after i turns it is `tabulate i f ++ drop i l`. A grid that is filled row by row: after u turns it is
-- `rows n u f ++ drop (n * u) t`.
use mathlib.Core.Path.{◌≡◌, refl, sym, ap, ◌∙◌}
use mathlib.Core.List.{List, ◌++◌, append_assoc, append-nil}
use Prim.Native.Nat.{ℕ, suc, ◌+◌, ◌-◌, ◌*◌, ◌≤◌, ◌<◌}
use native.Mathlib.Nat.{mul-suc, mul-zero}
use native.Mathlib.Numerals.{add-one}
use native.Mathlib.Omega.{arith}
use lib.ListN.{length, get_or, set, take, drop, length-append, length-drop}
use lib.Seq.{drop-cons, get_or_at, set_at, append_snoc, drop-length, take_at, drop_at, drop-drop}
use borrow.Rule.Slice.PartMut.{put_mid}
use Rattle.laws.specs.Lists.{tabulate, rows}
use Rattle.laws.proofs.Lists.{length-tabulate, length-rows}

module _ {A : Type 0} (f : ℕ → A) where
  pub fill_none : (l : List A) → l ≡ tabulate 0 f ++ drop 0 l
  unfolding tabulate
  fill_none l = refl

  pub fill_here : (l : List A) (i : ℕ) (d : A) → i < length l → get_or (tabulate i f ++ drop i l) i d ≡ get_or l i d
  fill_here l i d h =
      ap (λ (r : List A). get_or (tabulate i f ++ r) i d) (drop-cons l i d h)
      ∙ get_or_at (tabulate i f) (get_or l i d) (drop (suc i) l) d i (length-tabulate f i)

  pub fill_step : (l : List A) (i : ℕ) (d : A) → i < length l → set (tabulate i f ++ drop i l) i (f i) ≡ tabulate (i + 1) f ++ drop (i + 1) l
  unfolding tabulate
  fill_step l i d h =
      ap (λ (r : List A). set (tabulate i f ++ r) i (f i)) (drop-cons l i d h)
      ∙ set_at (tabulate i f) (get_or l i d) (drop (suc i) l) (f i) i (length-tabulate f i)
      ∙ sym (append_snoc (tabulate i f) (f i) (drop (suc i) l))
      ∙ ap (λ (k : ℕ). tabulate k f ++ drop k l) (sym (add-one i))

  pub fill_all : (l : List A) (n : ℕ) → n ≡ length l → tabulate n f ++ drop n l ≡ tabulate (length l) f
  fill_all l n e = ap (λ (k : ℕ). tabulate k f ++ drop k l) e ∙ ap (λ (r : List A). tabulate (length l) f ++ r) (drop-length l) ∙ append-nil (tabulate (length l) f)

  pub length_fill : (l : List A) (i : ℕ) → i ≤ length l → length (tabulate i f ++ drop i l) ≡ length l
  length_fill l i h = simp (length-append, length-tabulate, length-drop) (omega arith)

module _ {A : Type 0} (n : ℕ) (f : ℕ → ℕ → A) where
  pub rows_none : (t : List A) → t ≡ rows n 0 f ++ drop (n * 0) t
  unfolding rows
  rows_none t = simp mul-zero

  -- the row that is lent next is still as it was
  pub rows_part : (t : List A) (u : ℕ) → take n (drop (n * u) (rows n u f ++ drop (n * u) t)) ≡ take n (drop (n * u) t)
  rows_part t u = ap (take n) (drop_at (rows n u f) (drop (n * u) t) (n * u) (length-rows n f u))

  -- the row comes back as f says
  pub rows_step : (t : List A) (u : ℕ)
      → take (n * u) (rows n u f ++ drop (n * u) t) ++ (tabulate n (f u) ++ drop n (drop (n * u) (rows n u f ++ drop (n * u) t)))
      ≡ rows n (u + 1) f ++ drop (n * (u + 1)) t
  unfolding rows
  rows_step t u =
      simp (take_at (rows n u f) (drop (n * u) t) (n * u) (length-rows n f u), drop_at (rows n u f) (drop (n * u) t) (n * u) (length-rows n f u))
      (sym (append_assoc (rows n u f) (tabulate n (f u)) (drop n (drop (n * u) t)))
      ∙ ap (λ (r : List A). rows n u f ++ tabulate n (f u) ++ r) (drop-drop n (n * u) t ∙ ap (λ (k : ℕ). drop k t) (sym (mul-suc n u)))
      ∙ ap (λ (k : ℕ). rows n k f ++ drop (n * k) t) (sym (add-one u)))

-- a turn of a loop that fills: l is the list as it is now, l₀ as it was, and x what is stored
pub fill_turn : {A : Type 0} (f : ℕ → A) (l₀ l : List A) (i : ℕ) (x : A) → i < length l₀ → l ≡ tabulate i f ++ drop i l₀ → x ≡ f i → set l i x ≡ tabulate (i + 1) f ++ drop (i + 1) l₀
fill_turn f l₀ l i x h e q = (λ k. set (e k) i (q k)) ∙ fill_step f l₀ i x h

-- ---- a loop that lends the row u of a table as `&mut x[at..end]`, with at = n * u and end = at + n: t is the table where the loop begins, x as it is now
module _ {A : Type 0} (n : ℕ) (f : ℕ → ℕ → A) (t x : List A) (u : ℕ) (e : x ≡ rows n u f ++ drop (n * u) t) where
  -- the row that is lent is as it was
  pub row_lent : take (n * u + n - n * u) (drop (n * u) x) ≡ take n (drop (n * u) t)
  row_lent =
      let m : n * u + n - n * u ≡ n = omega arith in
      (λ i. take (m i) (drop (n * u) (e i))) ∙ rows_part n f t u

  -- the table when the row is back as f says
  pub row_back : (ys : List A) → ys ≡ tabulate n (f u) → put_mid (n * u) (n * u + n - n * u) x ys ≡ rows n (u + 1) f ++ drop (n * (u + 1)) t
  row_back ys q =
      let m : n * u + n - n * u ≡ n = omega arith in
      (λ i. put_mid (n * u) (m i) (e i) (q i)) ∙ rows_step n f t u
