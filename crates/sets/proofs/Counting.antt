-- How many numbers a set leaves out: for loops that add to a set.
use mathlib.Core.Path.{◌≡◌, sym, ap, ◌∙◌, subst}
use mathlib.Core.Bool.{Bool, true, false, cond, ◌||◌}
use Prim.Native.Nat.{ℕ, ◌≤◌, ◌<◌}
use native.Mathlib.Omega.{arith}
use lib.Dec.{T, eqb}
use Rattle.laws.specs.Bounded.{sum}
use Rattle.laws.proofs.Booleans.{or_r, eqb_same}
use Rattle.laws.proofs.Sums.{sum_lt}
use Rattle.sets.specs.declared.Set.{Set}
use Rattle.sets.specs.Sets.{room, holds}

abbrev out : Bool → ℕ
out b = cond b 0 1

unfoldable pub left_out : Set → ℕ
left_out s = sum room (λ u. out (holds s u))

pub plus_fewer : (v : ℕ) (s r : Set) → v < room → holds s v ≡ false → ((u : ℕ) → holds r u ≡ (eqb u v || holds s u)) → left_out r < left_out s
unfolding left_out
plus_fewer v s r l h e =
    sum_lt room (λ u. out (holds r u)) (λ u. out (holds s u)) v l
    (λ u _. less (holds r u) (holds s u) (λ t. subst T (sym (e u)) (or_r (eqb u v) (holds s u) t)))
    (fewer (holds r v) (holds s v) (e v ∙ ap (λ (b : Bool). b || holds s v) (eqb_same v)) h)
  where
    less : (a b : Bool) → (T b → T a) → out a ≤ out b
    less true b f = omega arith
    less false true f = absurd (f tt)
    less false false f = omega arith

    fewer : (a b : Bool) → a ≡ true → b ≡ false → out a < out b
    fewer true false p q = omega arith
    fewer true true p q = absurd (subst T q tt)
    fewer false b p q = absurd (subst T (sym p) tt)
