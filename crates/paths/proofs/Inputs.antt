-- Check 5 by rows: no row has an arc among the inputs' cells.
use mathlib.Core.Path.{◌≡◌}
use mathlib.Core.Logic.{◌≢◌}
use mathlib.Core.Bool.{true, false, not}
use Prim.Native.Nat.{ℕ, ◌<◌}
use native.Mathlib.Omega.{arith}
use lib.Dec.{T_not, not_T}
use Rattle.laws.specs.Bounded.{every, sum}
use Rattle.laws.proofs.Booleans.{is_true, is_false}
use Rattle.laws.proofs.Bounded.{every_at, every_all}
use Rattle.laws.proofs.Sums.{sum-some, sum_term}
use Rattle.graph.specs.Delay.{present}
use Rattle.graph.specs.Graph.{Graph}
use Rattle.graph.specs.Count.{bit}
use Rattle.graph.proofs.Presence.{present-bit, bit-present}
use Rattle.timing.specs.Checks.{no_arc_into_input}

module _ (m N : ℕ) (g : Graph) where
  -- the arcs of u into inputs
  abbrev pub to_inputs : ℕ → ℕ
  to_inputs u = sum m (λ i. bit (g u i))

  pub arc_found : (u : ℕ) → u < N → to_inputs u ≢ 0 → no_arc_into_input m N g ≡ false
  unfolding no_arc_into_input
  arc_found u l ne = is_false (no_arc_into_input m N g) (λ t.
      let p = sum-some m (λ i. bit (g u i)) (omega arith) in
      T_not (present (g u p.0)) (every_at m (λ i. not (present (g u i))) (every_at N (λ u. every m (λ i. not (present (g u i)))) t u l) p.0 p.1) (present-bit (g u p.0) p.2))

  pub none_found : ((u : ℕ) → u < N → to_inputs u ≡ 0) → no_arc_into_input m N g ≡ true
  unfolding no_arc_into_input
  none_found h = is_true (no_arc_into_input m N g) (every_all N (λ u. every m (λ i. not (present (g u i)))) (λ u lu. every_all m (λ i. not (present (g u i)))
      (λ i l. not_T (present (g u i)) (λ t. omega (arith, h u lu, sum_term m (λ i. bit (g u i)) i l, bit-present (g u i) t)))))
