-- The numbers below n at which a test holds, as a list: its members, and the first of them.
use mathlib.Core.Path.{◌≡◌, refl, sym, ap, ap₂, ◌∙◌, subst}
use mathlib.Core.Logic.{◌⊎◌, inl, inr}
use mathlib.Core.Bool.{Bool, true, false, not, cond, ◌&&◌, ◌||◌}
use mathlib.Core.List.{List, [], ◌∷◌, ◌++◌}
use Prim.Native.Nat.{ℕ, zero, suc, ◌≤◌, ◌<◌}
use native.Mathlib.Nat.{not-suc-le-zero}
use native.Mathlib.Decide.{ℕ_discrete}
use native.Mathlib.Omega.{arith}
use lib.Dec.{T, T_not, eqb, eqb→eq}
use Rattle.laws.specs.Bounded.{those, member, each}
use Rattle.laws.proofs.Booleans.{and_i, and_e, or_l, or_r, or_cases, cond_elim, eq→eqb, eqb_same, eqb_other}
use Rattle.laws.proofs.Truth.{no_second, and_end}

-- ---- one member more

pub member_more : (x : ℕ) (xs : List ℕ) (y : ℕ) → T (member x (xs ++ (y ∷ []))) → T (member x xs) ⊎ (x ≡ y)
unfolding member
member_more x [] y m = go (or_cases (eqb x y) false m)
  where
    go : T (eqb x y) ⊎ ⊥ → ⊥ ⊎ (x ≡ y)
    go (inl e) = inr (eqb→eq x y e)
    go (inr z) = absurd z
member_more x (z ∷ xs) y m = go (member_more x xs y) (or_cases (eqb x z) (member x (xs ++ (y ∷ []))) m)
  where
    lift : T (member x xs) ⊎ (x ≡ y) → T (eqb x z || member x xs) ⊎ (x ≡ y)
    lift (inl h) = inl (or_r (eqb x z) (member x xs) h)
    lift (inr e) = inr e

    go : (T (member x (xs ++ (y ∷ []))) → T (member x xs) ⊎ (x ≡ y)) → T (eqb x z) ⊎ T (member x (xs ++ (y ∷ []))) → T (eqb x z || member x xs) ⊎ (x ≡ y)
    go ih (inl e) = inl (or_l (eqb x z) (member x xs) e)
    go ih (inr h) = lift (ih h)

pub member_last : (x : ℕ) (xs : List ℕ) (y : ℕ) → T (member x xs) ⊎ (x ≡ y) → T (member x (xs ++ (y ∷ [])))
unfolding member
member_last x [] y (inl h) = absurd h
member_last x [] y (inr e) = or_l (eqb x y) false (eq→eqb x y e)
member_last x (z ∷ xs) y (inl h) = go (member_last x xs y) (or_cases (eqb x z) (member x xs) h)
  where
    go : (T (member x xs) ⊎ (x ≡ y) → T (member x (xs ++ (y ∷ [])))) → T (eqb x z) ⊎ T (member x xs) → T (eqb x z || member x (xs ++ (y ∷ [])))
    go ih (inl e) = or_l (eqb x z) (member x (xs ++ (y ∷ []))) e
    go ih (inr k) = or_r (eqb x z) (member x (xs ++ (y ∷ []))) (ih (inl k))
member_last x (z ∷ xs) y (inr e) = or_r (eqb x z) (member x (xs ++ (y ∷ []))) (member_last x xs y (inr e))

each_last : (xs : List ℕ) (y : ℕ) (p : ℕ → Bool) → T (each xs p) → T (p y) → T (each (xs ++ (y ∷ [])) p)
unfolding each
each_last [] y p s t = and_i (p y) true t tt
each_last (x ∷ xs) y p s t = let h = and_e (p x) (each xs p) s in and_i (p x) (each (xs ++ (y ∷ [])) p) h.0 (each_last xs y p h.1 t)

-- ---- the numbers below n at which f holds

module _ (f : ℕ → Bool) where
  pub those_at : (n x : ℕ) → T (member x (those n f)) → (x < n) × T (f x)
  unfolding those member
  those_at zero x m = absurd m
  those_at (suc n) x m = cond_elim (λ (xs : List ℕ). T (member x xs) → (x < suc n) × T (f x)) (f n) (those n f ++ (n ∷ [])) (those n f)
      (λ t h. go t (those_at n x) (member_more x (those n f) n h)) (λ _ h. let p = those_at n x h in (omega (arith, p.0), p.1)) m
    where
      go : T (f n) → (T (member x (those n f)) → (x < n) × T (f x)) → T (member x (those n f)) ⊎ (x ≡ n) → (x < suc n) × T (f x)
      go t ih (inl h) = let p = ih h in (omega (arith, p.0), p.1)
      go t ih (inr e) = (omega (arith, e), subst (λ (y : ℕ). T (f y)) (sym e) t)

  pub those_of : (n x : ℕ) → x < n → T (f x) → T (member x (those n f))
  unfolding those
  those_of zero x l t = absurd (not-suc-le-zero l)
  those_of (suc n) x l t = cond_elim (λ (xs : List ℕ). T (member x xs)) (f n) (those n f ++ (n ∷ [])) (those n f)
      (λ _. member_last x (those n f) n (go (those_of n x) (ℕ_discrete x n))) (λ b. those_of n x (below b (ℕ_discrete x n)) t)
    where
      go : (x < n → T (f x) → T (member x (those n f))) → Dec (x ≡ n) → T (member x (those n f)) ⊎ (x ≡ n)
      go ih (yes e) = inr e
      go ih (no q) = inl (ih (omega arith) t)

      below : T (not (f n)) → Dec (x ≡ n) → x < n
      below b (yes e) = absurd (T_not (f n) b (subst (λ (y : ℕ). T (f y)) e t))
      below b (no q) = omega arith

  pub each_those : (n : ℕ) (p : ℕ → Bool) → ((x : ℕ) → x < n → T (f x) → T (p x)) → T (each (those n f) p)
  unfolding those each
  each_those zero p h = tt
  each_those (suc n) p h =
      let all = each_those n p (λ x l. h x (omega arith)) in
      cond_elim (λ (xs : List ℕ). T (each xs p)) (f n) (those n f ++ (n ∷ [])) (those n f) (λ t. each_last (those n f) n p all (h n (omega arith) t)) (λ _. all)

  pub those_none : (n : ℕ) → ((x : ℕ) → x < n → f x ≡ false) → those n f ≡ []
  unfolding those
  those_none zero h = refl
  those_none (suc n) h = ap (λ (b : Bool). cond b (those n f ++ (n ∷ [])) (those n f)) (h n (omega arith)) ∙ those_none n (λ x l. h x (omega arith))

  -- none from n on
  pub those_beyond : (n k : ℕ) → n ≤ k → ((x : ℕ) → n ≤ x → f x ≡ false) → those k f ≡ those n f
  unfolding those
  those_beyond n zero l h = let e : n ≡ 0 = omega arith in rw e refl
  those_beyond n (suc k) l h = go (those_beyond n k) (ℕ_discrete n (suc k))
    where
      go : (n ≤ k → ((x : ℕ) → n ≤ x → f x ≡ false) → those k f ≡ those n f) → Dec (n ≡ suc k) → those (suc k) f ≡ those n f
      go ih (yes e) = rw e refl
      go ih (no q) = ap (λ (b : Bool). cond b (those k f ++ (k ∷ [])) (those k f)) (h k (omega arith)) ∙ ih (omega arith) h

-- tests that agree below n
pub those_same : (n : ℕ) (f g : ℕ → Bool) → ((x : ℕ) → x < n → f x ≡ g x) → those n f ≡ those n g
unfolding those
those_same zero f g h = refl
those_same (suc n) f g h = simp (those_same n f g (λ x l. h x (omega arith)), h n (omega arith))

-- the least of them first
pub those_first : (n : ℕ) (f : ℕ → Bool) (v : ℕ) → v < n → f v ≡ true → ((u : ℕ) → u < v → f u ≡ false) → those n f ≡ v ∷ those n (λ u. f u && not (eqb u v))
unfolding those
those_first zero f v l is none = absurd (not-suc-le-zero l)
those_first (suc n) f v l is none = go (those_first n f v) (ℕ_discrete v n)
  where
    f' : ℕ → Bool
    f' u = f u && not (eqb u v)

    go : (v < n → f v ≡ true → ((u : ℕ) → u < v → f u ≡ false) → those n f ≡ v ∷ those n (λ u. f u && not (eqb u v))) → Dec (v ≡ n)
        → cond (f n) (those n f ++ (n ∷ [])) (those n f) ≡ v ∷ cond (f n && not (eqb n v)) (those n (λ u. f u && not (eqb u v)) ++ (n ∷ [])) (those n (λ u. f u && not (eqb u v)))
    go ih (yes e) =
        let last : f n ≡ true = subst (λ (x : ℕ). f x ≡ true) e is in
        let gone : (f n && not (eqb n v)) ≡ false = no_second (f n) (not (eqb n v)) (ap not (ap (eqb n) e ∙ eqb_same n)) in
        ap₂ (λ (b : Bool) (xs : List ℕ). cond b (xs ++ (n ∷ [])) xs) last (those_none f n (λ x k. none x (omega (arith, e)))) ∙ ap (λ (x : ℕ). x ∷ []) (sym e)
        ∙ sym (ap (λ (xs : List ℕ). v ∷ xs) (ap (λ (b : Bool). cond b (those n f' ++ (n ∷ [])) (those n f')) gone ∙ those_none f' n (λ x k. ap (λ (b : Bool). b && not (eqb x v)) (none x (omega (arith, e, k))))))
    go ih (no q) =
        let same : (f n && not (eqb n v)) ≡ f n = ap (λ (b : Bool). f n && not b) (eqb_other n v (λ e. q (sym e))) ∙ and_end (f n) in
        step (f n) (ih (omega arith) is none) ∙ ap (λ (b : Bool). v ∷ cond b (those n f' ++ (n ∷ [])) (those n f')) (sym same)
      where
        step : (b : Bool) → those n f ≡ v ∷ those n (λ u. f u && not (eqb u v)) → cond b (those n f ++ (n ∷ [])) (those n f) ≡ v ∷ cond b (those n (λ u. f u && not (eqb u v)) ++ (n ∷ [])) (those n (λ u. f u && not (eqb u v)))
        step true e = ap (λ (xs : List ℕ). xs ++ (n ∷ [])) e
        step false e = e
