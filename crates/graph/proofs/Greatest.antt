-- `greatest` is the least upper bound of its terms, and one of them.
use mathlib.Core.Path.{◌≡◌, refl, ap₂, ◌∙◌, subst}
use mathlib.Core.Logic.{◌⊎◌, inl, inr}
use Prim.Native.Nat.{ℕ, zero, suc, ◌+◌, ◌-◌, ◌≤◌, ◌<◌}
use native.Mathlib.Nat.{not-suc-le-zero}
use native.Mathlib.Decide.{ℕ_discrete, dec_lt}
use native.Mathlib.Numerals.{add-one}
use native.Mathlib.Omega.{arith}
use Rattle.graph.specs.Delay.{Delay, absent, ◌⋓◌, ◌⊑◌, greatest}
use Rattle.graph.proofs.Delay.{absent_⊑, ⊑_trans, ⊑-antisym, ⊑-eq, ⋓-sel, ⋓-l, ⋓-r, ⋓-lub}

pub greatest_ge : (n : ℕ) (f : ℕ → Delay) (i : ℕ) → i < n → f i ⊑ greatest n f
unfolding greatest
greatest_ge zero f i h = absurd (not-suc-le-zero h)
greatest_ge (suc n) f i h = go (greatest_ge n f i) (ℕ_discrete i n)
  where
    go : (i < n → f i ⊑ greatest n f) → Dec (i ≡ n) → f i ⊑ greatest n f ⋓ f n
    go ih (yes e) = rw e (⋓-r (greatest n f) (f n))
    go ih (no ne) = ⊑_trans (ih (omega arith)) (⋓-l (greatest n f) (f n))

pub greatest_lub : (n : ℕ) (f : ℕ → Delay) (y : Delay) → ((i : ℕ) → i < n → f i ⊑ y) → greatest n f ⊑ y
unfolding greatest
greatest_lub zero f y h = absent_⊑ y
greatest_lub (suc n) f y h = ⋓-lub (greatest_lub n f y (λ i l. h i (omega arith))) (h n (omega arith))

-- for loops that count up
pub greatest_none : (f : ℕ → Delay) → greatest 0 f ≡ absent
unfolding greatest
greatest_none f = refl

pub greatest_more : (n : ℕ) (f : ℕ → Delay) → greatest (n + 1) f ≡ greatest n f ⋓ f n
unfolding greatest
greatest_more n f = rw (add-one n) refl

pub greatest_hit : (n : ℕ) (f : ℕ → Delay) → (greatest n f ≡ absent) ⊎ ((i : ℕ) × (i < n) × (greatest n f ≡ f i))
unfolding greatest
greatest_hit zero f = inl refl
greatest_hit (suc n) f = go (greatest_hit n f) (⋓-sel (greatest n f) (f n))
  where
    go : (greatest n f ≡ absent) ⊎ ((i : ℕ) × (i < n) × (greatest n f ≡ f i)) → ((greatest n f ⊑ f n) × (greatest n f ⋓ f n ≡ f n)) ⊎ ((f n ⊑ greatest n f) × (greatest n f ⋓ f n ≡ greatest n f))
        → (greatest n f ⋓ f n ≡ absent) ⊎ ((i : ℕ) × (i < suc n) × (greatest n f ⋓ f n ≡ f i))
    go d (inl h) = inr (n, omega arith, h.1)
    go (inl e) (inr h) = inl (h.1 ∙ e)
    go (inr (i, l, e)) (inr h) = inr (i, omega arith, h.1 ∙ e)

pub greatest_ext : (n : ℕ) (f g : ℕ → Delay) → ((i : ℕ) → i < n → f i ≡ g i) → greatest n f ≡ greatest n g
unfolding greatest
greatest_ext zero f g h = refl
greatest_ext (suc n) f g h = ap₂ ◌⋓◌ (greatest_ext n f g (λ i l. h i (omega arith))) (h n (omega arith))

-- terms that are absent add nothing
pub greatest_pad : (m n : ℕ) (f : ℕ → Delay) → m ≤ n → ((i : ℕ) → m ≤ i → i < n → f i ≡ absent) → greatest n f ≡ greatest m f
greatest_pad m n f l h = ⊑-antisym (greatest_lub n f (greatest m f) (λ i k. go i k (dec_lt i m))) (greatest_lub m f (greatest n f) (λ i k. greatest_ge n f i (omega arith)))
  where
    go : (i : ℕ) → i < n → Dec (i < m) → f i ⊑ greatest m f
    go i k (yes p) = greatest_ge m f i p
    go i k (no p) = ⊑_trans (⊑-eq (h i (omega arith) k)) (absent_⊑ (greatest m f))

-- only the terms from m to m + n - 1 count
pub greatest_window : (m n N : ℕ) (f : ℕ → Delay) → m + n ≤ N → ((i : ℕ) → i < m → f i ≡ absent) → ((i : ℕ) → m + n ≤ i → i < N → f i ≡ absent) → greatest N f ≡ greatest n (λ j. f (m + j))
greatest_window m n N f l low high =
    ⊑-antisym (greatest_lub N f (greatest n (λ j. f (m + j))) (λ i k. go i k (dec_lt i m) (dec_lt i (m + n)))) (greatest_lub n (λ j. f (m + j)) (greatest N f) (λ j k. greatest_ge N f (m + j) (omega arith)))
  where
    go : (i : ℕ) → i < N → Dec (i < m) → Dec (i < m + n) → f i ⊑ greatest n (λ j. f (m + j))
    go i k (yes p) _ = ⊑_trans (⊑-eq (low i p)) (absent_⊑ (greatest n (λ j. f (m + j))))
    go i k (no p) (yes q) =
        let e : m + (i - m) ≡ i = omega arith in
        subst (λ (x : ℕ). f x ⊑ greatest n (λ j. f (m + j))) e (greatest_ge n (λ j. f (m + j)) (i - m) (omega arith))
    go i k (no p) (no q) = ⊑_trans (⊑-eq (high i (omega arith) k)) (absent_⊑ (greatest n (λ j. f (m + j))))
