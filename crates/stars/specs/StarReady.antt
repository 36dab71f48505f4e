-- What the star's inner functions are given: two sets of vertices with all arcs from one to the other, and what an accepted verdict adds.
use Rattle.std.specs.Prelude.{Bool, List, ℕ, T, ltb}
use Rattle.laws.specs.Bounded.{each}
use Rattle.graph.specs.Delay.{present}
use Rattle.graph.specs.Graph.{Graph}
use Rattle.timing.specs.Limits.{delay_limit, fits}
use Rattle.reduction.specs.Outcome.{is_inner, unused}
use Rattle.reduction.specs.Star.{non_empty, distinct, to_centre}

-- vertices below N, in any number
unfoldable pub below : ℕ → List ℕ → Bool
below N xs = each xs (λ x. ltb x N)

-- different vertices below N, one at least
pub record VertexSet (N : ℕ) (xs : List ℕ) : Type 0 where
  pub under : T (below N xs)
  pub some : T (non_empty xs)
  pub apart : T (distinct xs)

pub record Bundle (N : ℕ) (S Ts : List ℕ) (g : Graph) : Type 0 where
  pub sources : VertexSet N S
  pub targets : VertexSet N Ts
  pub joined : T (each S (λ s. each Ts (λ t. present (g s t))))

pub record StarReady (m n N : ℕ) (S Ts : List ℕ) (k : ℕ) (g : Graph) : Type 0 where
  pub bundle : Bundle N S Ts g
  pub in_range : (u v : ℕ) → T (fits delay_limit (g u v))
  pub inner : T (is_inner m n N k)
  pub free : T (unused N g k)
  pub near : T (each S (λ s. fits delay_limit (to_centre S Ts g s)))
