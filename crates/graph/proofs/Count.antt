-- Counting arcs: by rows, by columns, and a fan of one.
use mathlib.Core.Path.{◌≡◌}
use mathlib.Core.Logic.{◌≢◌, ◌⊎◌, inl, inr}
use Prim.Native.Nat.{ℕ, ◌<◌}
use native.Mathlib.Omega.{arith}
use lib.Dec.{T}
use Rattle.laws.specs.Bounded.{sum}
use Rattle.laws.proofs.Update.{update, update_other}
use Rattle.laws.proofs.Sums.{sum-swap, sum-some, sum_pick, sum_term}
use Rattle.graph.specs.Delay.{Delay, absent, present}
use Rattle.graph.specs.Graph.{Graph}
use Rattle.graph.specs.Count.{bit, fan_in, fan_out, arcs}
use Rattle.graph.proofs.Presence.{absent_or, present-bit, absent_bit}

-- the same arcs the other way round
abbrev pub reversed : Graph → Graph
reversed g u v = g v u

pub arcs-reversed : (N : ℕ) (g : Graph) → arcs N (reversed g) ≡ arcs N g
unfolding arcs fan_out
arcs-reversed N g = sum-swap N N (λ u v. bit (g v u))

-- by columns
pub arcs-fan_in : (N : ℕ) (g : Graph) → arcs N g ≡ sum N (fan_in N g)
unfolding arcs fan_out fan_in
arcs-fan_in N g = sum-swap N N (λ u v. bit (g u v))

-- delays of which one is present
pub sole : (N : ℕ) (f : ℕ → Delay) → ((u : ℕ) → T (present (f u)) → u < N) → sum N (λ u. bit (f u)) ≡ 1 → (p : ℕ) × (p < N) × T (present (f p)) × ((u : ℕ) → u ≢ p → f u ≡ absent)
sole N f w e = go (sum-some N (λ u. bit (f u)) (omega arith))
  where
    go : (p : ℕ) × (p < N) × (0 < bit (f p)) → (p : ℕ) × (p < N) × T (present (f p)) × ((u : ℕ) → u ≢ p → f u ≡ absent)
    go (p, l, h) = (p, l, present-bit (f p) h, λ u n. other u n (absent_or (f u)))
      where
        other : (u : ℕ) → u ≢ p → (f u ≡ absent) ⊎ T (present (f u)) → f u ≡ absent
        other u n (inl z) = z
        other u n (inr t) = absent_bit (f u) (omega (arith, sum_pick N (λ x. bit (f x)) p l, sum_term N (update (λ x. bit (f x)) p 0) u (w u t), update_other (λ x. bit (f x)) p 0 u n))
