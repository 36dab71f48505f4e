-- A set that grows by the targets of its members, one member after another.
use mathlib.Core.Path.{◌≡◌, sym, subst}
use mathlib.Core.Bool.{Bool, ◌||◌}
use Prim.Native.Nat.{ℕ}
use lib.Dec.{T, eqb, eqb→eq}
use Rattle.laws.proofs.Booleans.{or_l, or_r, or_cases, split}
use Rattle.graph.specs.Delay.{present}
use Rattle.graph.specs.Graph.{Graph}
use Rattle.sets.specs.declared.Set.{Set}
use Rattle.sets.specs.Sets.{holds}
use Rattle.reach.specs.RowSets.{Targets}
use Rattle.reach.specs.Spread.{Closed, Spread}

-- all that is met has what the members of s have and arcs hand on; the members are met, and the targets of what is done
pub record Spreading (g : Graph) (s met done : Set) : Type 0 where
  pub only : (p : ℕ → Bool) → Closed g s p → (x : ℕ) → T (holds met x) → T (p x)
  pub start : (x : ℕ) → T (holds s x) → T (holds met x)
  pub onward : (x y : ℕ) → T (holds done x) → T (present (g x y)) → T (holds met y)

module _ {g : Graph} {s : Set} where
  -- what is done at first has no arcs
  pub spreading_start : (done : Set) → ((x y : ℕ) → T (holds done x) → ¬ (T (present (g x y)))) → Spreading g s s done
  spreading_start done none = record { only = λ p c x t. c.from x t; start = λ x t. t; onward = λ x y t a. absurd (none x y t a) }

  module _ {met done : Set} (m : Spreading g s met done) where
    -- x is met, and its targets are
    pub spreading_turn : (x : ℕ) → T (holds met x) → (row met' done' : Set) → Targets g x row → ((y : ℕ) → holds met' y ≡ (holds met y || holds row y))
        → ((y : ℕ) → holds done' y ≡ (eqb y x || holds done y)) → Spreading g s met' done'
    spreading_turn x t row met' done' row_is grown more = record {
      only = λ p c y k. split (or_cases (holds met y) (holds row y) (subst T (grown y) k)) (m.only p c y) (λ h. c.onward x y (m.only p c x t) (subst T (row_is y) h));
      start = λ y k. old y (m.start y k);
      onward = λ y z k a. split (or_cases (eqb y x) (holds done y) (subst T (more y) k))
          (λ q. new z (subst (λ (c : ℕ). T (present (g c z))) (eqb→eq y x q) a)) (λ h. old z (m.onward y z h a));
    }
      where
        old : (y : ℕ) → T (holds met y) → T (holds met' y)
        old y k = subst T (sym (grown y)) (or_l (holds met y) (holds row y) k)

        new : (y : ℕ) → T (present (g x y)) → T (holds met' y)
        new y k = subst T (sym (grown y)) (or_r (holds met y) (holds row y) (subst T (sym (row_is y)) k))

    -- all that is met is done
    pub spreading_end : ((x : ℕ) → T (holds met x) → T (holds done x)) → Spread g s met
    spreading_end all = record { closed = record { from = m.start; onward = λ x y t a. m.onward x y (all x t) a }; least = m.only }
