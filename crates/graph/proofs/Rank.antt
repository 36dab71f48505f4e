-- Ranks: a graph has no cycle exactly when its vertices can be numbered so that every arc rises.
use mathlib.Core.Path.{◌≡◌}
use mathlib.Core.Logic.{◌⊎◌, inl, inr}
use mathlib.Core.List.{List, [], ◌∷◌}
use Prim.Native.Nat.{ℕ, ◌≤◌, ◌<◌}
use native.Mathlib.Omega.{arith}
use lib.Dec.{T}
use Rattle.laws.specs.Bounded.{sum}
use Rattle.laws.proofs.Sums.{sum_lt, sum_bound}
use Rattle.graph.specs.Delay.{absent, present}
use Rattle.graph.specs.Graph.{Graph, path_delay, Acyclic, Longest, longest}
use Rattle.graph.specs.Count.{bit}
use Rattle.graph.proofs.Presence.{present_l, present_r, present-⊕, present-⊑, absent_or, bit_le, bit_mono, bit-present, bit_absent}
use Rattle.graph.proofs.Longest.{Within, longest_is}
use Rattle.graph.proofs.Closure.{arc_⊑, extend, none_round}

pub record Ranked (g : Graph) : Type 0 where
  pub rank : ℕ → ℕ
  pub rise : (u v : ℕ) → T (present (g u v)) → rank u < rank v

pub rise_path : {g : Graph} (r : Ranked g) (u : ℕ) (xs : List ℕ) (v : ℕ) → T (present (path_delay g u xs v)) → r.rank u < r.rank v
rise_path r u [] v t = r.rise u v t
rise_path {g} r u (x ∷ xs) v t = omega (arith, r.rise u x (present_l (g u x) (path_delay g x xs v) t), rise_path r x xs v (present_r (g u x) (path_delay g x xs v) t))

pub ranked_acyclic : {g : Graph} → Ranked g → Acyclic g
ranked_acyclic {g} r = record { no_loop = λ v xs. go v xs (absent_or (path_delay g v xs v)) }
  where
    go : (v : ℕ) (xs : List ℕ) → (path_delay g v xs v ≡ absent) ⊎ T (present (path_delay g v xs v)) → path_delay g v xs v ≡ absent
    go v xs (inl e) = e
    go v xs (inr t) = absurd (omega (arith, rise_path r v xs v t))

-- a graph without a cycle has a rank: the number of vertices from which a path leads to v
pub acyclic_ranked : (N : ℕ) {g : Graph} → Within N g → Acyclic g → (r : Ranked g) × ((v : ℕ) → r.rank v ≤ N)
acyclic_ranked N {g} w a = (record { rank = λ v. sum N (λ x. bit (longest g N x v)); rise = go }, λ v. sum_bound N (λ x. bit (longest g N x v)) (λ x. bit_le (longest g N x v)))
  where
    l : Longest g (longest g N)
    l = longest_is N g w a

    go : (u v : ℕ) → T (present (g u v)) → sum N (λ x. bit (longest g N x u)) < sum N (λ x. bit (longest g N x v))
    go u v t = sum_lt N (λ x. bit (longest g N x u)) (λ x. bit (longest g N x v)) u (w.in_range u v t).0
        (λ x _. bit_mono (longest g N x u) (longest g N x v) (λ s. present-⊑ (extend l x u v) (present-⊕ (longest g N x u) (g u v) s t)))
        (omega (arith, bit_absent (none_round l a u), bit-present (longest g N u v) (present-⊑ (arc_⊑ l u v) t)))
