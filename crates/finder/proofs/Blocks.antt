-- The lists of a vertex's star.
use borrow.Author.Tests.{lt-ltb, le-ltb}
use lib.Dec.{T, ltb}
use mathlib.Core.Path.{◌≡◌, ap, ◌∙◌, subst}
use mathlib.Core.Bool.{Bool, ◌&&◌}
use mathlib.Core.List.{List, ◌∷◌}
use Prim.Native.Nat.{ℕ, ◌*◌, ◌≤◌, ◌<◌}
use native.Mathlib.Nat.{mul-le-mul}
use native.Mathlib.Omega.{arith}
use lib.ListN.{length}
use Rattle.laws.specs.Bounded.{those}
use Rattle.laws.proofs.Booleans.{is_false}
use Rattle.laws.proofs.Those.{those_beyond, those_same}
use Rattle.laws.proofs.Truth.{no_first}
use Rattle.graph.specs.Delay.{present}
use Rattle.graph.specs.Graph.{Graph}
use Rattle.graph.proofs.Longest.{Within}
use Rattle.timing.specs.Limits.{max_vertices}
use Rattle.reduction.specs.FindStar.{targets_of, is_other_source, sources_of}
use Rattle.reduction.proofs.FindStar.{sources_below, sources_distinct, targets_below, targets_distinct}
use Rattle.sets.specs.declared.Set.{Set}
use Rattle.sets.specs.Sets.{room, holds}
use Rattle.reach.specs.RowSets.{Targets}
use Rattle.stars.specs.StarReady.{below}
use Rattle.stars.proofs.Sets.{set-size}
use Rattle.finder.specs.Finding.{OthersOf}

module _ (N : ℕ) (g : Graph) (a : ℕ) where
  -- T(a), from the set of its row
  pub targets_listed : N ≤ max_vertices → Within N g → (row : Set) → Targets g a row → those room (holds row) ≡ targets_of N g a
  unfolding targets_of
  targets_listed few w row h =
      those_beyond (holds row) N room (omega (arith, few)) (λ t l. is_false (holds row t) (λ k. omega (arith, l, (w.in_range a t (subst T (h t) k)).1)))
      ∙ those_same N (holds row) (λ t. present (g a t)) (λ t _. h t)

  pub targets_few : length (targets_of N g a) ≤ N
  unfolding below
  targets_few = set-size N (targets_of N g a) (targets_below N g a) (targets_distinct N g a)

  -- S(a), from the set of the others
  pub sources_listed : N ≤ max_vertices → (others : Set) → OthersOf N g a others → a ∷ those room (holds others) ≡ sources_of N g a
  unfolding sources_of
  sources_listed few others h = ap (λ (xs : List ℕ). a ∷ xs)
      (those_beyond (holds others) N room (omega (arith, few)) (λ s l. h s ∙ no_first (ltb s N) (is_other_source N g a s) (le-ltb s N l))
      ∙ those_same N (holds others) (is_other_source N g a) (λ s l. h s ∙ ap (λ (b : Bool). b && is_other_source N g a s) (lt-ltb s N l)))

  pub sources_few : a < N → length (sources_of N g a) ≤ N
  unfolding below
  sources_few l = set-size N (sources_of N g a) (sources_below N g a l) (sources_distinct N g a)

-- so few that their product fits
pub product_fits : (x y : ℕ) → x ≤ max_vertices → y ≤ max_vertices → x * y ≤ 8100
product_fits x y hx hy = mul-le-mul {n₂ = 90} {m₂ = 90} hx hy
