-- Laws of `every`, `some`, `first`, `member` and `each`: how each is made, and what it gives.
use mathlib.Core.Path.{◌≡◌, refl, sym, ap₂, subst}
use mathlib.Core.Logic.{◌⊎◌, inl, inr}
use mathlib.Core.Bool.{Bool, true, false, not, cond, ◌&&◌, ◌||◌}
use mathlib.Core.List.{List, [], ◌∷◌}
use Prim.Native.Nat.{ℕ, zero, suc, ◌+◌, ◌≤◌, ◌<◌}
use native.Mathlib.Nat.{not-suc-le-zero}
use native.Mathlib.Decide.{ℕ_discrete, dec_lt}
use native.Mathlib.Numerals.{add-one}
use native.Mathlib.Omega.{arith}
use borrow.Author.Tests.{lt-ltb, le-ltb}
use lib.Dec.{T, T_not, eqb, eqb→eq, ltb, ltb→lt, lt→ltb}
use Rattle.laws.specs.Bounded.{every, some, first, member, each}
use Rattle.laws.proofs.Booleans.{or_l, or_r, or_cases, and_i, and_e, true_or-not, cond_elim, is_false}

-- a fact of each number below n, and of n
pub below_suc {ℓ} : (P : ℕ → Type ℓ) (n : ℕ) → ((i : ℕ) → i < n → P i) → P n → (i : ℕ) → i < suc n → P i
below_suc P n h p i l = go (ℕ_discrete i n)
  where
    go : Dec (i ≡ n) → P i
    go (yes e) = subst P (sym e) p
    go (no q) = h i (omega arith)

pub every_at : (n : ℕ) (f : ℕ → Bool) → T (every n f) → (i : ℕ) → i < n → T (f i)
unfolding every
every_at zero f t i l = absurd (not-suc-le-zero l)
every_at (suc n) f t i l = let p = and_e (every n f) (f n) t in below_suc (λ i. T (f i)) n (every_at n f p.0) p.1 i l

pub every_all : (n : ℕ) (f : ℕ → Bool) → ((i : ℕ) → i < n → T (f i)) → T (every n f)
unfolding every
every_all zero f h = tt
every_all (suc n) f h = and_i (every n f) (f n) (every_all n f (λ i l. h i (omega arith))) (h n (omega arith))

pub every_fails : (n : ℕ) (f : ℕ → Bool) → T (not (every n f)) → (i : ℕ) × (i < n) × T (not (f i))
unfolding every
every_fails zero f t = absurd t
every_fails (suc n) f t = go (every_fails n f) (true_or-not (every n f)) (true_or-not (f n))
  where
    go : (T (not (every n f)) → (i : ℕ) × (i < n) × T (not (f i))) → T (every n f) ⊎ T (not (every n f)) → T (f n) ⊎ T (not (f n))
        → (i : ℕ) × (i < suc n) × T (not (f i))
    go ih (inr a) _ = let r = ih a in (r.0, omega arith, r.2)
    go ih (inl a) (inr b) = (n, omega arith, b)
    go ih (inl a) (inl b) = absurd (T_not (every n f && f n) t (and_i (every n f) (f n) a b))

pub some_at : (n : ℕ) (f : ℕ → Bool) → T (some n f) → (i : ℕ) × (i < n) × T (f i)
unfolding some
some_at zero f t = absurd t
some_at (suc n) f t = go (some_at n f) (or_cases (some n f) (f n) t)
  where
    go : (T (some n f) → (i : ℕ) × (i < n) × T (f i)) → T (some n f) ⊎ T (f n) → (i : ℕ) × (i < suc n) × T (f i)
    go ih (inl s) = let r = ih s in (r.0, omega arith, r.2)
    go ih (inr s) = (n, omega arith, s)

pub some_of : (n : ℕ) (f : ℕ → Bool) (i : ℕ) → i < n → T (f i) → T (some n f)
unfolding some
some_of zero f i h t = absurd (not-suc-le-zero h)
some_of (suc n) f i h t = go (some_of n f i) (ℕ_discrete i n)
  where
    go : (i < n → T (f i) → T (some n f)) → Dec (i ≡ n) → T (some n f || f n)
    go ih (yes e) = or_r (some n f) (f n) (subst (λ (x : ℕ). T (f x)) e t)
    go ih (no ne) = or_l (some n f) (f n) (ih (omega arith) t)

pub first_holds : (n : ℕ) (f : ℕ → Bool) → first n f < n → T (f (first n f))
unfolding first
first_holds zero f l = absurd (not-suc-le-zero l)
first_holds (suc n) f l = cond_elim (λ (r : ℕ). r < suc n → T (f r)) (ltb (first n f) n) (first n f) (cond (f n) n (suc n))
    (λ b _. first_holds n f (ltb→lt (first n f) n b))
    (λ _. cond_elim (λ (r : ℕ). r < suc n → T (f r)) (f n) n (suc n) (λ b _. b) (λ _ k. absurd (omega arith))) l

pub first_below : (n : ℕ) (f : ℕ → Bool) (i : ℕ) → i < n → T (f i) → first n f < n
unfolding first
first_below zero f i l h = absurd (not-suc-le-zero l)
first_below (suc n) f i l h =
    cond_elim (λ (r : ℕ). r < suc n) (ltb (first n f) n) (first n f) (cond (f n) n (suc n)) (λ b. omega (arith, ltb→lt (first n f) n b))
    (λ b. cond_elim (λ (r : ℕ). r < suc n) (f n) n (suc n) (λ _. omega arith) (λ c. absurd (go (first_below n f i) b c (ℕ_discrete i n))))
  where
    go : (i < n → T (f i) → first n f < n) → T (not (ltb (first n f) n)) → T (not (f n)) → Dec (i ≡ n) → ⊥
    go ih b c (yes e) = T_not (f n) c (subst (λ (x : ℕ). T (f x)) e h)
    go ih b c (no ne) = T_not (ltb (first n f) n) b (lt→ltb (first n f) n (ih (omega arith) h))

-- a search that ends with n, and one that stops at i
pub first_none : (n : ℕ) (f : ℕ → Bool) → ((j : ℕ) → j < n → f j ≡ false) → first n f ≡ n
unfolding first
first_none zero f h = refl
first_none (suc n) f h = simp (first_none n f (λ j l. h j (omega arith)), le-ltb n n (omega arith), h n (omega arith))

pub first_found : (n : ℕ) (f : ℕ → Bool) (i : ℕ) → i < n → ((j : ℕ) → j < i → f j ≡ false) → f i ≡ true → first n f ≡ i
unfolding first
first_found zero f i l h e = absurd (not-suc-le-zero l)
first_found (suc n) f i l h e = go (first_found n f i) (ℕ_discrete i n)
  where
    go : (i < n → ((j : ℕ) → j < i → f j ≡ false) → f i ≡ true → first n f ≡ i) → Dec (i ≡ n) → cond (ltb (first n f) n) (first n f) (cond (f n) n (suc n)) ≡ i
    go ih (yes q) = simp (first_none n f (λ j k. h j (omega arith)), le-ltb n n (omega arith), subst (λ (x : ℕ). f x ≡ true) q e) (sym q)
    go ih (no q) = simp (ih (omega arith) h e, lt-ltb i n (omega arith))

pub first_above : (n : ℕ) (f : ℕ → Bool) (i : ℕ) → i ≤ n → ((j : ℕ) → j < i → f j ≡ false) → i ≤ first n f
first_above n f i l h = go (dec_lt (first n f) i)
  where
    go : Dec (first n f < i) → i ≤ first n f
    go (yes k) = absurd (subst T (h (first n f) k) (first_holds n f (omega arith)))
    go (no k) = omega arith

pub each_at : (xs : List ℕ) (f : ℕ → Bool) → T (each xs f) → (x : ℕ) → T (member x xs) → T (f x)
unfolding each member
each_at [] f t x h = absurd h
each_at (y ∷ ys) f t x h = go (each_at ys f) (and_e (f y) (each ys f) t) (or_cases (eqb x y) (member x ys) h)
  where
    go : (T (each ys f) → (x : ℕ) → T (member x ys) → T (f x)) → T (f y) × T (each ys f) → T (eqb x y) ⊎ T (member x ys) → T (f x)
    go ih p (inl q) = subst (λ (z : ℕ). T (f z)) (sym (eqb→eq x y q)) p.0
    go ih p (inr q) = ih p.1 x q

-- ---- for loops that count up: one number more, a number that fails, and functions that agree

pub every_none : (f : ℕ → Bool) → every 0 f ≡ true
unfolding every
every_none f = refl

pub every_more : (f : ℕ → Bool) (i : ℕ) → every i f ≡ true → f i ≡ true → every (i + 1) f ≡ true
unfolding every
every_more f i all this = rw (add-one i) (simp (all, this))

pub every_broken : (n : ℕ) (f : ℕ → Bool) (i : ℕ) → i < n → f i ≡ false → every n f ≡ false
every_broken n f i l e = is_false (every n f) (λ t. subst T e (every_at n f t i l))

pub every_same : (n : ℕ) (f g : ℕ → Bool) → ((i : ℕ) → i < n → f i ≡ g i) → every n f ≡ every n g
unfolding every
every_same zero f g h = refl
every_same (suc n) f g h = ap₂ ◌&&◌ (every_same n f g (λ i l. h i (omega arith))) (h n (omega arith))
