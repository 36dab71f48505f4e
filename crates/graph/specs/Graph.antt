-- Timing graphs: the delay of the arc from one vertex to another, absent where there is no arc.
use Rattle.std.specs.Prelude.{◌≡◌, cond, List, [], ◌∷◌, ℕ, zero, suc, eqb}
use Rattle.graph.specs.Delay.{Delay, absent, immediate, ◌⋓◌, ◌⊕◌, ◌⊑◌, greatest}

abbrev pub Graph : Type 0
Graph = ℕ → ℕ → Delay

-- every arc turned round
abbrev pub reversed : Graph → Graph
reversed g u v = g v u

-- A path from u to v is one or more arcs end to end, given by the vertices between; its delay is the sum, absent where an arc is missing.
abbrev pub path_delay : Graph → ℕ → List ℕ → ℕ → Delay
path_delay g u [] v = g u v
path_delay g u (x ∷ xs) v = g u x ⊕ path_delay g x xs v

-- no path leads from a vertex to itself
pub record Acyclic (g : Graph) : Type 0 where
  pub no_loop : (v : ℕ) (xs : List ℕ) → path_delay g v xs v ≡ absent

-- D u v is the greatest delay of a path from u to v, absent where there is none
pub record Longest (g D : Graph) : Type 0 where
  pub bound : (u : ℕ) (xs : List ℕ) (v : ℕ) → path_delay g u xs v ⊑ D u v
  pub reached : (u v : ℕ) → (xs : List ℕ) × (D u v ≡ path_delay g u xs v)

-- the same, computed: the greatest delay of a path whose inner vertices are below k
unfoldable pub longest : Graph → ℕ → Graph
longest g zero u v = g u v
longest g (suc k) u v = longest g k u v ⋓ (longest g k u k ⊕ longest g k k v)

-- the greatest delay of a walk from u to v: of a path, or 0 where u is v
unfoldable pub walk : Graph → Graph
walk D u v = cond (eqb u v) immediate (D u v)

-- the latest signal at v among vertices below N, where one starts at each vertex u at F u
unfoldable pub propagated : ℕ → Graph → (ℕ → Delay) → ℕ → Delay
propagated N g F v = F v ⋓ greatest N (λ u. F u ⊕ longest g N u v)
