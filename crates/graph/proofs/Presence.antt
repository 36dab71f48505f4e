-- Whether a delay is present: as a fact, and as a bit to be counted.
use mathlib.Core.Path.{◌≡◌, refl, sym, ap, subst}
use mathlib.Core.Logic.{◌⊎◌, inl, inr}
use mathlib.Core.Bool.{not, ◌&&◌}
use Prim.Native.Nat.{ℕ, ◌+◌, ◌*◌, ◌≤◌, ◌<◌}
use native.Mathlib.Omega.{arith}
use lib.Dec.{T}
use lib.IntN.{ℤ}
use Rattle.laws.specs.Bounded.{sum}
use Rattle.laws.proofs.Booleans.{and_i, and_e}
use Rattle.laws.proofs.Sums.{sum-most, sum_bound}
use Rattle.graph.specs.Delay.{Delay, absent, at, present, ticks, ◌⋓◌, ◌⊕◌, ◌⊖◌, ◌⊑◌, eq_d}
use Rattle.graph.specs.Graph.{Graph}
use Rattle.graph.specs.Count.{bit, fan_out, arcs}
use Rattle.graph.proofs.Delay.{⋓-elim, eq_d→eq, eq→eq_d}

pub bit_le : (x : Delay) → bit x ≤ 1
unfolding bit
bit_le absent = omega arith
bit_le (at a) = omega arith

-- each vertex has at most N arcs out
pub arcs_few : (N : ℕ) (g : Graph) → arcs N g ≤ N * N
unfolding arcs fan_out
arcs_few N g = sum-most N N (λ u. sum N (λ v. bit (g u v))) (λ u. sum_bound N (λ v. bit (g u v)) (λ v. bit_le (g u v)))

pub present_l : (x y : Delay) → T (present (x ⊕ y)) → T (present x)
present_l absent y t = t
present_l (at a) y t = tt

pub present_r : (x y : Delay) → T (present (x ⊕ y)) → T (present y)
present_r absent y t = absurd t
present_r (at a) absent t = t
present_r (at a) (at b) t = tt

pub present-⊕ : (x y : Delay) → T (present x) → T (present y) → T (present (x ⊕ y))
present-⊕ absent y s t = s
present-⊕ (at a) absent s t = t
present-⊕ (at a) (at b) s t = tt

pub present-⊖ : (x y : Delay) → T (present x) → T (present y) → T (present (x ⊖ y))
present-⊖ absent y s t = s
present-⊖ (at a) absent s t = absurd t
present-⊖ (at a) (at b) s t = tt

-- present and equal, as a test
pub same_i : (x y : Delay) → T (present x) → x ≡ y → T (present x && eq_d x y)
same_i x y t e = and_i (present x) (eq_d x y) t (eq→eq_d x y e)

pub same_e : (x y : Delay) → T (present x && eq_d x y) → T (present x) × (x ≡ y)
same_e x y t = let p = and_e (present x) (eq_d x y) t in (p.0, eq_d→eq x y p.1)

present-⊑' : (x y : Delay) → x ⊑ y → T (present x) → T (present y)
present-⊑' absent y h t = absurd t
present-⊑' (at a) absent h t = h.le
present-⊑' (at a) (at b) h t = tt

pub present-⊑ : {x y : Delay} → x ⊑ y → T (present x) → T (present y)
present-⊑ {x} {y} h t = present-⊑' x y h t

pub absent_or : (x : Delay) → (x ≡ absent) ⊎ T (present x)
absent_or absent = inl refl
absent_or (at a) = inr tt

pub not-present : (x : Delay) → x ≡ absent → ¬ (T (present x))
not-present x e t = subst (λ (d : Delay). T (present d)) e t

pub bit_mono : (x y : Delay) → (T (present x) → T (present y)) → bit x ≤ bit y
unfolding bit
bit_mono absent y h = omega arith
bit_mono (at a) absent h = absurd (h tt)
bit_mono (at a) (at b) h = omega arith

pub bit-present : (x : Delay) → T (present x) → bit x ≡ 1
unfolding bit
bit-present absent t = absurd t
bit-present (at a) t = refl

pub bit_absent : {x : Delay} → x ≡ absent → bit x ≡ 0
unfolding bit
bit_absent e = ap bit e

pub present-bit : (x : Delay) → 0 < bit x → T (present x)
present-bit x h = go (absent_or x)
  where
    go : (x ≡ absent) ⊎ T (present x) → T (present x)
    go (inl e) = absurd (omega (arith, bit_absent e))
    go (inr t) = t

pub absent_bit : (x : Delay) → bit x ≡ 0 → x ≡ absent
absent_bit x h = go (absent_or x)
  where
    go : (x ≡ absent) ⊎ T (present x) → x ≡ absent
    go (inl e) = e
    go (inr t) = absurd (omega (arith, bit-present x t))

pub bit_same : {x y : Delay} → x ≡ y → bit x ≤ bit y
bit_same e = omega (arith, ap bit e)

-- the greater of two delays, the second of which is present only where y is
pub bit-⋓ : (x y q z : Delay) → z ≡ x ⋓ q → (T (present q) → T (present y)) → bit z ≤ bit x + bit y
bit-⋓ x y q z e h = omega (arith, ap bit e, ⋓-elim (λ (d : Delay). bit d ≤ bit x + bit y) x q (omega arith) (omega (arith, bit_mono q y h)))

pub absent_unless : (x : Delay) → T (not (present x)) → x ≡ absent
absent_unless absent t = refl
absent_unless (at a) t = absurd t

pub ticks_is : (x : Delay) → T (present x) → x ≡ at (ticks x)
ticks_is absent t = absurd t
ticks_is (at z) t = refl

pub at_present : {x : Delay} {z : ℤ} → x ≡ at z → T (present x)
at_present {x} {z} e = subst (λ (d : Delay). T (present d)) (sym e) tt
