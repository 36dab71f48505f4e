-- Laws of finite sums.
use mathlib.Core.Path.{◌≡◌, refl, sym, ap, ap₂, ◌∙◌}
use mathlib.Core.Logic.{◌≢◌}
use Prim.Native.Nat.{ℕ, zero, suc, ◌+◌, ◌*◌, ◌≤◌, ◌<◌}
use native.Mathlib.Nat.{not-suc-le-zero, mul-suc, mul-zero, mul-add}
use native.Mathlib.Decide.{ℕ_discrete}
use native.Mathlib.Numerals.{add-one}
use native.Mathlib.Omega.{arith}
use Rattle.laws.specs.Bounded.{sum}
use Rattle.laws.proofs.Update.{update, update_same, update_other, update_elim}

pub sum_le : (n : ℕ) (f g : ℕ → ℕ) → ((i : ℕ) → i < n → f i ≤ g i) → sum n f ≤ sum n g
unfolding sum
sum_le zero f g h = omega arith
sum_le (suc n) f g h = omega (arith, sum_le n f g (λ i l. h i (omega arith)), h n (omega arith))

pub sum_eq : (n : ℕ) (f g : ℕ → ℕ) → ((i : ℕ) → i < n → f i ≡ g i) → sum n f ≡ sum n g
unfolding sum
sum_eq zero f g h = refl
sum_eq (suc n) f g h = ap₂ ◌+◌ (sum_eq n f g (λ i l. h i (omega arith))) (h n (omega arith))

pub sum_add : (n : ℕ) (f g : ℕ → ℕ) → sum n (λ i. f i + g i) ≡ sum n f + sum n g
unfolding sum
sum_add zero f g = refl
sum_add (suc n) f g = omega (arith, sum_add n f g)

pub sum_zero : (n : ℕ) (f : ℕ → ℕ) → ((i : ℕ) → i < n → f i ≡ zero) → sum n f ≡ zero
unfolding sum
sum_zero zero f h = refl
sum_zero (suc n) f h = omega (arith, sum_zero n f (λ i l. h i (omega arith)), h n (omega arith))

pub sum-swap : (n m : ℕ) (f : ℕ → ℕ → ℕ) → sum n (λ i. sum m (λ j. f i j)) ≡ sum m (λ j. sum n (λ i. f i j))
unfolding sum
sum-swap zero m f = sym (sum_zero m (λ j. zero) (λ i l. refl))
sum-swap (suc n) m f = ap (λ (s : ℕ). s + sum m (λ j. f n j)) (sum-swap n m f) ∙ sym (sum_add m (λ j. sum n (λ i. f i j)) (λ j. f n j))

-- one term more, as a loop counts
pub sum_more : (f : ℕ → ℕ) (i : ℕ) → sum (i + 1) f ≡ sum i f + f i
unfolding sum
sum_more f i = rw (add-one i)

pub sum-most : (n k : ℕ) (f : ℕ → ℕ) → ((i : ℕ) → f i ≤ k) → sum n f ≤ k * n
unfolding sum
sum-most zero k f h = omega arith
sum-most (suc n) k f h = let e : k * suc n ≡ k * n + k = mul-suc k n in omega (arith, e, sum-most n k f h, h n)

pub sum_scaled : (n k : ℕ) (f : ℕ → ℕ) → sum n (λ i. k * f i) ≡ k * sum n f
unfolding sum
sum_scaled zero k f = sym (mul-zero k)
sum_scaled (suc n) k f = ap (λ (s : ℕ). s + k * f n) (sum_scaled n k f) ∙ sym (mul-add k (sum n f) (f n))

pub sum_bound : (n : ℕ) (f : ℕ → ℕ) → ((i : ℕ) → f i ≤ 1) → sum n f ≤ n
sum_bound n f h = omega (arith, sum-most n 1 f h)

pub sum-some : (n : ℕ) (f : ℕ → ℕ) → 0 < sum n f → (p : ℕ) × (p < n) × (0 < f p)
unfolding sum
sum-some zero f h = absurd (omega arith)
sum-some (suc n) f h = go (sum-some n f) (ℕ_discrete (f n) 0)
  where
    go : (0 < sum n f → (p : ℕ) × (p < n) × (0 < f p)) → Dec (f n ≡ 0) → (p : ℕ) × (p < suc n) × (0 < f p)
    go ih (yes z) = let r = ih (omega arith) in (r.0, omega arith, r.2)
    go ih (no z) = (n, omega arith, omega arith)

-- one term apart
pub sum_pick : (n : ℕ) (f : ℕ → ℕ) (k : ℕ) → k < n → sum n f ≡ f k + sum n (update f k zero)
unfolding sum
sum_pick zero f k h = absurd (not-suc-le-zero h)
sum_pick (suc n) f k h = go (sum_pick n f k) (ℕ_discrete n k)
  where
    far : (m : ℕ) → m ≤ k → sum m (update f k zero) ≡ sum m f
    far m l = sum_eq m (update f k zero) f (λ i j. update_other f k zero i (λ e. absurd (apart i j e)))
      where
        apart : (i : ℕ) → i < m → i ≡ k → ⊥
        apart i j e = omega arith

    go : (k < n → sum n f ≡ f k + sum n (update f k zero)) → Dec (n ≡ k) → sum n f + f n ≡ f k + (sum n (update f k zero) + update f k zero n)
    go ih (yes e) =
        let a : update f k zero n ≡ zero = rw e (update_same f k zero) in
        let b : f n ≡ f k = ap f e in
        omega (arith, far n (omega arith))
    go ih (no ne) =
        let a : update f k zero n ≡ f n = update_other f k zero n ne in
        omega (arith, ih (omega arith))

pub sum_term : (n : ℕ) (f : ℕ → ℕ) (i : ℕ) → i < n → f i ≤ sum n f
sum_term n f i l = omega (arith, sum_pick n f i l)

-- ---- two sums compared: the terms at one, two or three places taken together, the others term by term

update_le : (f g : ℕ → ℕ) (k i : ℕ) → (i ≢ k → f i ≤ g i) → update f k zero i ≤ update g k zero i
update_le f g k i h = go (ℕ_discrete i k)
  where
    go : Dec (i ≡ k) → update f k zero i ≤ update g k zero i
    go (yes e) = rw (e, update_same f k zero, update_same g k zero) (omega arith)
    go (no ne) = rw (update_other f k zero i ne, update_other g k zero i ne) (h ne)

pub sum_but_one : (n : ℕ) (f g : ℕ → ℕ) (k : ℕ) (c d : ℕ) → k < n → ((i : ℕ) → i < n → i ≢ k → f i ≤ g i) → f k + c ≤ g k + d → sum n f + c ≤ sum n g + d
sum_but_one n f g k c d l h s =
    omega (arith, sum_pick n f k l, sum_pick n g k l, sum_le n (update f k zero) (update g k zero) (λ i j. update_le f g k i (h i j)))

pub sum_same_but_one : (n : ℕ) (f g : ℕ → ℕ) (k : ℕ) (c d : ℕ) → k < n → ((i : ℕ) → i < n → i ≢ k → f i ≡ g i) → f k + c ≡ g k + d → sum n f + c ≡ sum n g + d
sum_same_but_one n f g k c d l h s =
    omega (arith, sum_but_one n f g k c d l (λ i j q. omega (arith, h i j q)) (omega (arith, s)), sum_but_one n g f k d c l (λ i j q. omega (arith, h i j q)) (omega (arith, s)))

pub sum_but_two : (n : ℕ) (f g : ℕ → ℕ) (p k : ℕ) (c d : ℕ) → p < n → k < n → p ≢ k
    → ((i : ℕ) → i < n → i ≢ p → i ≢ k → f i ≤ g i) → f p + f k + c ≤ g p + g k + d → sum n f + c ≤ sum n g + d
sum_but_two n f g p k c d lp lk ne h s =
    let r = sum_but_one n (update f p zero) (update g p zero) k (f p + c) (g p + d) lk
    (λ i j m. update_le f g p i (λ q. h i j q m))
    (rw (update_other f p zero k (λ e. ne (sym e)), update_other g p zero k (λ e. ne (sym e))) (omega arith)) in
    omega (arith, sum_pick n f p lp, sum_pick n g p lp, r)

pub sum_but_three : (n : ℕ) (f g : ℕ → ℕ) (a p k : ℕ) (c d : ℕ) → a < n → p < n → k < n → a ≢ p → a ≢ k → p ≢ k
    → ((i : ℕ) → i < n → i ≢ a → i ≢ p → i ≢ k → f i ≤ g i) → f a + (f p + f k) + c ≤ g a + (g p + g k) + d → sum n f + c ≤ sum n g + d
sum_but_three n f g a p k c d la lp lk ap ak pk h s =
    let r = sum_but_two n (update f a zero) (update g a zero) p k (f a + c) (g a + d) lp lk pk
    (λ i j m o. update_le f g a i (λ q. h i j q m o))
    (rw (update_other f a zero p (λ e. ap (sym e)), update_other g a zero p (λ e. ap (sym e)), update_other f a zero k (λ e. ak (sym e)), update_other g a zero k (λ e. ak (sym e))) (omega arith)) in
    omega (arith, sum_pick n f a la, sum_pick n g a la, r)

-- a term that is less, the others at most as much
pub sum_lt : (n : ℕ) (f g : ℕ → ℕ) (k : ℕ) → k < n → ((i : ℕ) → i < n → f i ≤ g i) → f k < g k → sum n f < sum n g
sum_lt n f g k l h s = omega (arith, sum_but_one n f g k 1 0 l (λ i j _. h i j) (omega arith))

-- one term that is not 0 at most
pub sum_single : (n : ℕ) (f : ℕ → ℕ) (k : ℕ) → k < n → ((i : ℕ) → i ≢ k → f i ≡ zero) → sum n f ≡ f k
sum_single n f k l h = omega (arith, sum_pick n f k l, sum_zero n (update f k zero) (λ i j. update_elim f k zero (λ (x y : ℕ). y ≡ zero) refl i (h i)))
