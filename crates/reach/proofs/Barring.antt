-- Spreading over a table but for the arcs out of one vertex, which is done from the start.
use mathlib.Core.Path.{◌≡◌, refl, sym, ap, ◌∙◌, subst}
use mathlib.Core.Logic.{◌≢◌}
use mathlib.Core.Bool.{false, not, ◌||◌}
use Prim.Native.Nat.{ℕ, ◌<◌}
use native.Mathlib.Decide.{ℕ_discrete}
use lib.Dec.{T, T_not, eqb, eqb→eq, ltb, ltb→lt, lt→ltb}
use Rattle.laws.proofs.Booleans.{eqb_same, eqb_other, eq→eqb, or_l, or_r, or_cases, split}
use Rattle.graph.specs.Delay.{Delay, absent, present}
use Rattle.graph.specs.Graph.{Graph}
use Rattle.graph.proofs.Presence.{not-present}
use Rattle.graph.proofs.Longest.{Within}
use Rattle.sets.specs.declared.Set.{Set}
use Rattle.sets.specs.Sets.{holds}
use Rattle.reach.specs.RowSets.{Targets}
use Rattle.reach.specs.Spread.{barred}
use Rattle.reach.proofs.Spreading.{Spreading, spreading_start, spreading_turn}

pub barred_out : (b : ℕ) (g : Graph) (v : ℕ) → barred b g b v ≡ absent
unfolding barred
barred_out b g v = rw (eqb_same b) refl

pub barred_other : (b : ℕ) (g : Graph) (u v : ℕ) → u ≢ b → barred b g u v ≡ g u v
unfolding barred
barred_other b g u v n = rw (eqb_other u b n) refl

pub record Barring (g : Graph) (b : ℕ) (s met done : Set) : Type 0 where
  pub spreading : Spreading (barred b g) s met done
  pub barred_done : T (holds done b)

module _ {g : Graph} {b : ℕ} {s : Set} where
  pub barring_start : (none done : Set) → ((u : ℕ) → holds none u ≡ false) → ((u : ℕ) → holds done u ≡ (eqb u b || holds none u)) → Barring g b s s done
  barring_start none done empty more = record {
    spreading = spreading_start done (λ x y t. not-present (barred b g x y) (rw (only x t) (barred_out b g y)));
    barred_done = subst T (sym (more b)) (or_l (eqb b b) (holds none b) (eq→eqb b b refl));
  }
    where
      only : (x : ℕ) → T (holds done x) → x ≡ b
      only x t = split (or_cases (eqb x b) (holds none x) (subst T (more x) t)) (eqb→eq x b) (λ h. absurd (subst T (empty x) h))

  module _ {N : ℕ} (w : Within N g) (low : (u : ℕ) → T (holds s u) → u < N) {met done : Set} (m : Barring g b s met done) where
    pub barring_in : (x : ℕ) → T (holds met x) → x < N
    barring_in x t = ltb→lt x N (m.spreading.only (λ x. ltb x N) (record { from = λ x t. lt→ltb x N (low x t); onward = λ x y _ t. lt→ltb y N (onward x y t (ℕ_discrete x b)) }) x t)
      where
        onward : (x y : ℕ) → T (present (barred b g x y)) → Dec (x ≡ b) → y < N
        onward x y t (yes e) = absurd (not-present (barred b g x y) (rw e (barred_out b g y)) t)
        onward x y t (no n) = (w.in_range x y (subst (λ (d : Delay). T (present d)) (barred_other b g x y n) t)).1

    pub barring_turn : (x : ℕ) → T (holds met x) → T (not (holds done x)) → (row met' done' : Set) → Targets g x row → ((y : ℕ) → holds met' y ≡ (holds met y || holds row y))
        → ((y : ℕ) → holds done' y ≡ (eqb y x || holds done y)) → Barring g b s met' done'
    barring_turn x t left row met' done' is grown more = record {
      spreading = spreading_turn m.spreading x t row met' done' (λ y. is y ∙ ap present (sym (barred_other b g x y (λ e. T_not (holds done x) left (subst (λ (z : ℕ). T (holds done z)) (sym e) m.barred_done))))) grown more;
      barred_done = subst T (sym (more b)) (or_r (eqb b x) (holds done b) m.barred_done);
    }
