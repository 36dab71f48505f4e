-- Of two opposite arcs a graph without a cycle has one at most, so that each of N vertices has fewer than N arcs, and all together have at most N × (N − 1) / 2.
use mathlib.Core.Path.{◌≡◌, refl}
use mathlib.Core.Logic.{◌⊎◌, inl, inr}
use mathlib.Core.List.{[], ◌∷◌}
use Prim.Native.Nat.{ℕ, zero, suc, ◌+◌, ◌*◌, ◌≤◌, ◌<◌}
use native.Mathlib.Omega.{arith}
use lib.Dec.{T}
use Rattle.laws.specs.Bounded.{sum}
use Rattle.laws.proofs.Sums.{sum_le, sum_lt, sum_add, sum-most}
use Rattle.graph.specs.Delay.{absent, present, ◌⊕◌}
use Rattle.graph.specs.Graph.{Graph, Acyclic}
use Rattle.graph.specs.Count.{bit, fan_in, fan_out, arcs}
use Rattle.graph.proofs.Presence.{absent_or, not-present, present-⊕, bit_le, bit_absent}
use Rattle.graph.proofs.Count.{reversed, arcs-reversed}

ones : (n : ℕ) → sum n (λ _. 1) ≡ n
unfolding sum
ones zero = refl
ones (suc n) = omega (arith, ones n)

module _ {g : Graph} (a : Acyclic g) where
  abbrev both : ℕ → ℕ → ℕ
  both u v = bit (g u v) + bit (g v u)

  one_way : (u v : ℕ) → both u v ≤ 1
  one_way u v = go (absent_or (g u v)) (absent_or (g v u))
    where
      go : (g u v ≡ absent) ⊎ T (present (g u v)) → (g v u ≡ absent) ⊎ T (present (g v u)) → both u v ≤ 1
      go (inl e) _ = omega (arith, bit_absent e, bit_le (g v u))
      go (inr _) (inl e) = omega (arith, bit_absent e, bit_le (g u v))
      go (inr s) (inr t) = absurd (not-present (g u v ⊕ g v u) (a.no_loop u (v ∷ [])) (present-⊕ (g u v) (g v u) s t))

  -- a vertex has none to itself
  row_below : (N u : ℕ) → u < N → sum N (both u) + 1 ≤ N
  row_below N u l = omega (arith, ones N, sum_lt N (both u) (λ _. 1) u l (λ v _. one_way u v) (omega (arith, bit_absent (a.no_loop u []))))

  rows_both : (N u : ℕ) → sum N (both u) ≡ fan_out N g u + fan_out N (reversed g) u
  unfolding fan_out
  rows_both N u = sum_add N (λ v. bit (g u v)) (λ v. bit (g v u))

  -- the arcs at a vertex, in and out together
  pub fans_below : (N v : ℕ) → v < N → fan_in N g v + fan_out N g v < N
  unfolding fan_in fan_out
  fans_below N v l = omega (arith, rows_both N v, row_below N v l)

  pub arcs_half : (N : ℕ) → arcs N g + arcs N g + N ≤ N * N
  unfolding arcs
  arcs_half N =
      let out = fan_out N g in
      let back = fan_out N (reversed g) in
      let row : ℕ → ℕ = λ u. (out u + back u) + 1 in
      omega (
        arith,
        arcs-reversed N g,
        ones N,
        sum_add N out back,
        sum_add N (λ u. out u + back u) (λ _. 1),
        sum_le N row (λ _. N) (λ u l. omega (arith, rows_both N u, row_below N u l)),
        sum-most N N (λ _. N) (λ _. omega arith),
      )
