-- The laws of delays: ⊑ is an order, ⋓ the greater of two, ⊕ a sum that ⋓ passes through.
use mathlib.Core.Path.{◌≡◌, refl, ap, subst}
use mathlib.Core.Logic.{◌⊎◌, inl, inr}
use mathlib.Core.Bool.{false}
use mathlib.Core.List.{List, [], ◌∷◌}
use Prim.Native.Nat.{ℕ, zero}
use lib.Dec.{T, eqb, eqb→eq}
use lib.IntN.{ℤ, pos, neg_ℤ, ◌+ℤ◌, ◌-ℤ◌}
use lib.Signed.{◌≤ℤ◌, ◌<ℤ◌}
use Rattle.laws.specs.Integers.{max_z}
use Rattle.laws.specs.Bounded.{member}
use Rattle.laws.proofs.Linear.{zarith, sum, dif, neg}
use Rattle.laws.proofs.Integers.{eq_z→eq, eq_z_refl, max_sel, min_le}
use Rattle.laws.proofs.Booleans.{or_cases}
use Rattle.graph.specs.Delay.{Delay, absent, at, present, immediate, ◌⋓◌, ◌⊕◌, ◌⊖◌, ◌⋒◌, AtMost, ◌⊑◌, eq_d, least}

-- ---- the order

pub ⊑-at : {a b : ℤ} → a ≤ℤ b → at a ⊑ at b
⊑-at h = record { le = h }

pub absent_⊑ : (y : Delay) → absent ⊑ y
absent_⊑ y = record { le = tt }

pub ⊑_refl : (x : Delay) → x ⊑ x
⊑_refl absent = absent_⊑ absent
⊑_refl (at a) = ⊑-at (omega zarith)

trans' : (x y z : Delay) → AtMost x y → AtMost y z → AtMost x z
trans' absent y z h k = tt
trans' (at a) absent z h k = absurd h
trans' (at a) (at b) absent h k = k
trans' (at a) (at b) (at c) h k = omega zarith

pub ⊑_trans : {x y z : Delay} → x ⊑ y → y ⊑ z → x ⊑ z
⊑_trans {x} {y} {z} h k = record { le = trans' x y z h.le k.le }

antisym' : (x y : Delay) → AtMost x y → AtMost y x → x ≡ y
antisym' absent absent h k = refl
antisym' absent (at b) h k = absurd k
antisym' (at a) absent h k = absurd h
antisym' (at a) (at b) h k = ap at (omega zarith)

pub ⊑-antisym : {x y : Delay} → x ⊑ y → y ⊑ x → x ≡ y
⊑-antisym {x} {y} h k = antisym' x y h.le k.le

pub ⊑-eq : {x y : Delay} → x ≡ y → x ⊑ y
⊑-eq {x} e = subst (λ (y : Delay). x ⊑ y) e (⊑_refl x)

pub ⊑-absent : {x : Delay} → x ⊑ absent → x ≡ absent
⊑-absent h = ⊑-antisym h (absent_⊑ _)

-- ---- the sum

pub ⊕-absent : (x : Delay) → x ⊕ absent ≡ absent
⊕-absent absent = refl
⊕-absent (at a) = refl

pub ⊕-immediate : (x : Delay) → x ⊕ immediate ≡ x
⊕-immediate absent = refl
⊕-immediate (at a) = ap at (omega (zarith, sum a (pos zero)))

pub immediate-⊕ : (x : Delay) → immediate ⊕ x ≡ x
immediate-⊕ absent = refl
immediate-⊕ (at a) = ap at (omega (zarith, sum (pos zero) a))

pub ⊕-assoc : (x y z : Delay) → (x ⊕ y) ⊕ z ≡ x ⊕ (y ⊕ z)
⊕-assoc absent y z = refl
⊕-assoc (at a) absent z = refl
⊕-assoc (at a) (at b) absent = refl
⊕-assoc (at a) (at b) (at c) = ap at (omega (zarith, sum a b, sum (a +ℤ b) c, sum b c, sum a (b +ℤ c)))

pub ⊕-comm : (x y : Delay) → x ⊕ y ≡ y ⊕ x
⊕-comm absent absent = refl
⊕-comm absent (at b) = refl
⊕-comm (at a) absent = refl
⊕-comm (at a) (at b) = ap at (omega (zarith, sum a b, sum b a))

mono' : (x y z w : Delay) → AtMost x y → AtMost z w → AtMost (x ⊕ z) (y ⊕ w)
mono' absent y z w h k = tt
mono' (at a) absent z w h k = absurd h
mono' (at a) (at b) absent w h k = tt
mono' (at a) (at b) (at c) absent h k = k
mono' (at a) (at b) (at c) (at d) h k = omega (zarith, sum a c, sum b d)

pub ⊕-mono : {x y z w : Delay} → x ⊑ y → z ⊑ w → x ⊕ z ⊑ y ⊕ w
⊕-mono {x} {y} {z} {w} h k = record { le = mono' x y z w h.le k.le }

pub ⊕-left : (z : Delay) {x y : Delay} → x ⊑ y → z ⊕ x ⊑ z ⊕ y
⊕-left z h = ⊕-mono (⊑_refl z) h

pub ⊕-right : (z : Delay) {x y : Delay} → x ⊑ y → x ⊕ z ⊑ y ⊕ z
⊕-right z h = ⊕-mono h (⊑_refl z)

-- ---- the greater of two

pub ⋓-sel : (x y : Delay) → ((x ⊑ y) × (x ⋓ y ≡ y)) ⊎ ((y ⊑ x) × (x ⋓ y ≡ x))
⋓-sel absent y = inl (absent_⊑ y, refl)
⋓-sel (at a) absent = inr (absent_⊑ (at a), refl)
⋓-sel (at a) (at b) = go (max_sel a b)
  where
    go : ((a <ℤ b) × (max_z a b ≡ b)) ⊎ ((b ≤ℤ a) × (max_z a b ≡ a))
        → ((at a ⊑ at b) × (at (max_z a b) ≡ at b)) ⊎ ((at b ⊑ at a) × (at (max_z a b) ≡ at a))
    go (inl h) = inl (⊑-at (omega zarith), ap at h.1)
    go (inr h) = inr (⊑-at h.0, ap at h.1)

pub ⋓-elim {ℓ} : (P : Delay → Type ℓ) (x y : Delay) → P x → P y → P (x ⋓ y)
⋓-elim P x y p q = go (⋓-sel x y)
  where
    go : ((x ⊑ y) × (x ⋓ y ≡ y)) ⊎ ((y ⊑ x) × (x ⋓ y ≡ x)) → P (x ⋓ y)
    go (inl h) = rw h.1 q
    go (inr h) = rw h.1 p

pub ⋓-l : (x y : Delay) → x ⊑ x ⋓ y
⋓-l x y = go (⋓-sel x y)
  where
    go : ((x ⊑ y) × (x ⋓ y ≡ y)) ⊎ ((y ⊑ x) × (x ⋓ y ≡ x)) → x ⊑ x ⋓ y
    go (inl h) = rw h.1 h.0
    go (inr h) = rw h.1 (⊑_refl x)

pub ⋓-r : (x y : Delay) → y ⊑ x ⋓ y
⋓-r x y = go (⋓-sel x y)
  where
    go : ((x ⊑ y) × (x ⋓ y ≡ y)) ⊎ ((y ⊑ x) × (x ⋓ y ≡ x)) → y ⊑ x ⋓ y
    go (inl h) = rw h.1 (⊑_refl y)
    go (inr h) = rw h.1 h.0

pub ⋓-lub : {x y z : Delay} → x ⊑ z → y ⊑ z → x ⋓ y ⊑ z
⋓-lub {x} {y} {z} h k = ⋓-elim (λ (t : Delay). t ⊑ z) x y h k

pub ⋓-mono : {x y z w : Delay} → x ⊑ y → z ⊑ w → x ⋓ z ⊑ y ⋓ w
⋓-mono {x} {y} {z} {w} h k = ⋓-lub (⊑_trans h (⋓-l y w)) (⊑_trans k (⋓-r y w))

pub ⋓-absent : (x : Delay) → x ⋓ absent ≡ x
⋓-absent absent = refl
⋓-absent (at x) = refl

pub ⋓-assoc : (x y z : Delay) → (x ⋓ y) ⋓ z ≡ x ⋓ (y ⋓ z)
⋓-assoc x y z = ⊑-antisym
    (⋓-lub (⋓-lub (⋓-l x (y ⋓ z)) (⊑_trans (⋓-l y z) (⋓-r x (y ⋓ z)))) (⊑_trans (⋓-r y z) (⋓-r x (y ⋓ z))))
    (⋓-lub (⊑_trans (⋓-l x y) (⋓-l (x ⋓ y) z)) (⋓-lub (⊑_trans (⋓-r x y) (⋓-l (x ⋓ y) z)) (⋓-r (x ⋓ y) z)))

pub ⋓-idem : (x : Delay) → x ⋓ x ≡ x
⋓-idem x = ⋓-elim (λ (t : Delay). t ≡ x) x x refl refl

-- a part that is absent
pub none_r : (x : Delay) {y z : Delay} → y ≡ absent → x ⊕ y ⊑ z
none_r x {y} {z} e = rw (e, ⊕-absent x) (absent_⊑ z)

pub none_l : {x : Delay} (y : Delay) {z : Delay} → x ≡ absent → x ⊕ y ⊑ z
none_l y {z} e = rw e (absent_⊑ z)

-- what is added in one part and taken off in the other
pub ⊕-cancel : (x y : Delay) (d : ℤ) → (x ⊕ at d) ⊕ (y ⊕ at (neg_ℤ d)) ≡ x ⊕ y
⊕-cancel absent y d = refl
⊕-cancel (at x) absent d = refl
⊕-cancel (at x) (at y) d = ap at (omega (zarith, sum x d, sum y (neg_ℤ d), neg d, sum (x +ℤ d) (y +ℤ neg_ℤ d), sum x y))

-- ---- equality, as a test

pub eq_d→eq : (x y : Delay) → T (eq_d x y) → x ≡ y
eq_d→eq absent absent t = refl
eq_d→eq absent (at b) t = absurd t
eq_d→eq (at a) absent t = absurd t
eq_d→eq (at a) (at b) t = ap at (eq_z→eq a b t)

eq_d_refl : (x : Delay) → T (eq_d x x)
eq_d_refl absent = tt
eq_d_refl (at a) = eq_z_refl a

pub eq→eq_d : (x y : Delay) → x ≡ y → T (eq_d x y)
eq→eq_d x y e = subst (λ (z : Delay). T (eq_d x z)) e (eq_d_refl x)

-- ---- the difference, and the lesser of two

pub ⊖-⊕ : (x y : Delay) → (x ⊖ y) ⊕ y ⊑ x
⊖-⊕ absent y = absent_⊑ absent
⊖-⊕ (at a) absent = absent_⊑ (at a)
⊖-⊕ (at a) (at b) = ⊑-at (omega (zarith, dif a b, sum (a -ℤ b) b))

-- a difference and what was taken off, where both are there
pub ⊖-⊕-same : (x y : Delay) → T (present x) → T (present y) → (x ⊖ y) ⊕ y ≡ x
⊖-⊕-same absent y s t = absurd s
⊖-⊕-same (at a) absent s t = absurd t
⊖-⊕-same (at a) (at b) s t = ap at (omega (zarith, dif a b, sum (a -ℤ b) b))

pub ⊖-self : (x : Delay) → T (present x) → x ⊖ x ≡ immediate
⊖-self absent t = absurd t
⊖-self (at a) t = ap at (omega (zarith, dif a a))

⋒-l : (x y : Delay) → x ⋒ y ⊑ x
⋒-l absent y = absent_⊑ absent
⋒-l (at a) absent = absent_⊑ (at a)
⋒-l (at a) (at b) = ⊑-at (min_le a b).0

⋒-r : (x y : Delay) → x ⋒ y ⊑ y
⋒-r absent y = absent_⊑ y
⋒-r (at a) absent = absent_⊑ absent
⋒-r (at a) (at b) = ⊑-at (min_le a b).1

pub least-⊑ : (ts : List ℕ) (f : ℕ → Delay) (t : ℕ) → T (member t ts) → least ts f ⊑ f t
unfolding least member
least-⊑ [] f t m = absurd m
least-⊑ (s ∷ []) f t m = go (or_cases (eqb t s) false m)
  where
    go : T (eqb t s) ⊎ T false → f s ⊑ f t
    go (inl e) = rw (eqb→eq t s e) (⊑_refl (f s))
    go (inr e) = absurd e
least-⊑ (s ∷ r ∷ ts) f t m = go (least-⊑ (r ∷ ts) f t) (or_cases (eqb t s) (member t (r ∷ ts)) m)
  where
    go : (T (member t (r ∷ ts)) → least (r ∷ ts) f ⊑ f t) → T (eqb t s) ⊎ T (member t (r ∷ ts)) → f s ⋒ least (r ∷ ts) f ⊑ f t
    go ih (inl e) = rw (eqb→eq t s e) (⋒-l (f s) (least (r ∷ ts) f))
    go ih (inr e) = ⊑_trans (⋒-r (f s) (least (r ∷ ts) f)) (ih e)
