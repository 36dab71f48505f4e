-- Tests as facts: `T b` says that b is true.
use mathlib.Core.Path.{◌≡◌, refl, sym, ap, subst}
use mathlib.Core.Logic.{◌≢◌, ◌⊎◌, inl, inr}
use mathlib.Core.Bool.{Bool, true, false, not, cond, ◌&&◌, ◌||◌}
use Prim.Native.Nat.{ℕ}
use lib.Dec.{T, T_not, not_T, eqb, eqb→eq, eqb_refl}

pub T_true : {b : Bool} → T b → b ≡ true
T_true {b = true} t = refl
T_true {b = false} t = absurd t

pub T-not-false : {b : Bool} → T (not b) → b ≡ false
T-not-false {b = true} t = absurd t
T-not-false {b = false} t = refl

pub not_is : {a b : Bool} → a ≡ not b → b ≡ not a
not_is {b = true} e = sym (ap not e)
not_is {b = false} e = sym (ap not e)

pub or_l : (a b : Bool) → T a → T (a || b)
or_l true b t = tt
or_l false b t = absurd t

pub or_r : (a b : Bool) → T b → T (a || b)
or_r true b t = tt
or_r false b t = t

pub or_cases : (a b : Bool) → T (a || b) → T a ⊎ T b
or_cases true b t = inl tt
or_cases false b t = inr t

pub and_i : (a b : Bool) → T a → T b → T (a && b)
and_i true b s t = t
and_i false b s t = s

pub and_e : (a b : Bool) → T (a && b) → T a × T b
and_e true b t = (tt, t)
and_e false b t = absurd t

pub true_or-not : (b : Bool) → T b ⊎ T (not b)
true_or-not true = inl tt
true_or-not false = inr tt

pub cond_elim {ℓ} : {A : Type ℓ} (P : A → Type 0) (b : Bool) (x y : A) → (T b → P x) → (T (not b) → P y) → P (cond b x y)
cond_elim P true x y p q = p tt
cond_elim P false x y p q = q tt

-- ---- equality of numbers, as a test

pub eqb_same : (n : ℕ) → eqb n n ≡ true
eqb_same n = T_true (eqb_refl n)

pub eqb_other : (m n : ℕ) → m ≢ n → eqb m n ≡ false
eqb_other m n h = go (eqb m n) (eqb→eq m n)
  where
    go : (b : Bool) → (T b → m ≡ n) → b ≡ false
    go true f = absurd (h (f tt))
    go false f = refl

pub eq→eqb : (m n : ℕ) → m ≡ n → T (eqb m n)
eq→eqb m n e = subst (λ (x : ℕ). T (eqb m x)) e (eqb_refl m)

pub neqb→ne : (m n : ℕ) → T (not (eqb m n)) → m ≢ n
neqb→ne m n t e = T_not (eqb m n) t (eq→eqb m n e)

pub ne→neqb : (m n : ℕ) → m ≢ n → T (not (eqb m n))
ne→neqb m n h = not_T (eqb m n) (λ t. h (eqb→eq m n t))

-- ---- by cases, with the scrutinee first so that the cases' types are known

pub split {ℓ} : {X Y : Type 0} {P : Type ℓ} → X ⊎ Y → (X → P) → (Y → P) → P
split (inl x) f g = f x
split (inr y) f g = g y

pub cases {ℓ} : {P : Type ℓ} (b : Bool) → (b ≡ true → P) → (b ≡ false → P) → P
cases true f g = f refl
cases false f g = g refl

pub is_true : (b : Bool) → T b → b ≡ true
is_true b t = T_true t

pub is_false : (b : Bool) → (T b → ⊥) → b ≡ false
is_false true h = absurd (h tt)
is_false false h = refl

pub true_is : {b : Bool} → b ≡ true → T b
true_is e = subst T (sym e) tt
