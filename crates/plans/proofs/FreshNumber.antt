-- The smallest free number, by the numbers passed.
use mathlib.Core.Path.{◌≡◌, sym, ap, ◌∙◌}
use mathlib.Core.Bool.{true, false, ◌&&◌}
use Prim.Native.Nat.{ℕ, ◌+◌, ◌-◌, ◌≤◌, ◌<◌}
use native.Mathlib.Omega.{arith}
use lib.Dec.{T, leb, ltb, le→leb, lt→ltb}
use Rattle.laws.proofs.Booleans.{and_i, and_e, is_true, true_is}
use Rattle.laws.proofs.Bounded.{first_none, first_found}
use Rattle.graph.specs.Graph.{Graph}
use Rattle.reduction.specs.Outcome.{is_inner, unused, fresh_number}

module _ (m n N : ℕ) (g : Graph) where
  -- none of the inner numbers below k is free
  abbrev pub NoneBelow : ℕ → Type 0
  NoneBelow k = (x : ℕ) → m + n + x < k → unused N g (m + n + x) ≡ false

  module _ (k : ℕ) (low : m + n ≤ k) (high : k < N) where
    place : m + n + (k - (m + n)) ≡ k
    place = omega arith

    inner : T (is_inner m n N k)
    inner = and_i (leb (m + n) k) (ltb k N) (le→leb (m + n) k low) (lt→ltb k N high)

    pub fresh_found : NoneBelow k → true ≡ (is_inner m n N k && unused N g k) → k ≡ fresh_number m n N g
    unfolding fresh_number
    fresh_found none free =
        let here : unused N g (m + n + (k - (m + n))) ≡ true = ap (unused N g) place ∙ is_true (unused N g k) (and_e (is_inner m n N k) (unused N g k) (true_is (sym free))).1 in
        sym place ∙ ap (λ (x : ℕ). m + n + x) (sym (first_found (N - (m + n)) (λ x. unused N g (m + n + x)) (k - (m + n)) (omega arith) (λ j l. none j (omega arith)) here))

  pub fresh_none : m + n ≤ N → NoneBelow N → N ≡ fresh_number m n N g
  unfolding fresh_number
  fresh_none room none =
      let e = first_none (N - (m + n)) (λ x. unused N g (m + n + x)) (λ j l. none j (omega arith)) in
      omega (arith, e)
