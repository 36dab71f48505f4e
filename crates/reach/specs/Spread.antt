-- Sets that arcs do not leave.
use Rattle.std.specs.Prelude.{Bool, cond, ℕ, T, eqb}
use Rattle.graph.specs.Delay.{absent, present}
use Rattle.graph.specs.Graph.{Graph}
use Rattle.sets.specs.declared.Set.{Set}
use Rattle.sets.specs.Sets.{holds}

-- p holds of the members of s, and of each target of a vertex of which it holds
pub record Closed (g : Graph) (s : Set) (p : ℕ → Bool) : Type 0 where
  pub from : (x : ℕ) → T (holds s x) → T (p x)
  pub onward : (x y : ℕ) → T (p x) → T (present (g x y)) → T (p y)

-- the least set of that kind: the members of s, and all that paths lead to from them
pub record Spread (g : Graph) (s met : Set) : Type 0 where
  pub closed : Closed g s (holds met)
  pub least : (p : ℕ → Bool) → Closed g s p → (x : ℕ) → T (holds met x) → T (p x)

-- without the arcs out of b
unfoldable pub barred : ℕ → Graph → Graph
barred b g u v = cond (eqb u b) absent (g u v)
