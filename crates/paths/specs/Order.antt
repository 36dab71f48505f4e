-- Topological orders.
use Rattle.std.specs.Prelude.{Option, Some, is_some, ◌≡◌, ◌≢◌, Bool, List, ℕ, ◌+◌, ◌≤◌, ◌<◌, T, eqb, ltb, ℤ, length, get_or}
use Rattle.laws.specs.Bounded.{first}
use Rattle.graph.specs.Delay.{present}
use Rattle.graph.specs.Graph.{Graph}
use Rattle.graph.specs.Count.{bit, fan_in}
use Rattle.timing.specs.Limits.{max_vertices}
use Rattle.timing.specs.Checks.{no_cycle}
use Rattle.paths.specs.Cells.{cell_at}

-- v's place among the first N of o; N where it is not there
abbrev pub rank_of : ℕ → List ℕ → ℕ → ℕ
rank_of N o v = first N (λ p. eqb (get_or o p 0) v)

-- o lists the vertices below N, each once, so that every arc rises
pub record TopologicalOrder (N : ℕ) (g : Graph) (o : List ℕ) : Type 0 where
  pub place : (v : ℕ) → v < N → (rank_of N o v < N) × (get_or o (rank_of N o v) 0 ≡ v)
  pub vertex : (p : ℕ) → p < N → (get_or o p 0 < N) × (rank_of N o (get_or o p 0) ≡ p)
  pub rise : (u v : ℕ) → T (present (g u v)) → rank_of N o u < rank_of N o v

-- r is an order where check 6 passes, and None where it does not
pub record Ordered (N : ℕ) (g : Graph) (r : Option (List ℕ)) : Type 0 where
  pub answer : is_some r ≡ no_cycle N g
  pub order : (o : List ℕ) → r ≡ Some o → TopologicalOrder N g o

-- a stands before b among the first n
unfoldable pub stands_before : ℕ → List ℕ → ℕ → ℕ → Bool
stands_before n o a b = ltb (rank_of n o a) (rank_of n o b)

-- how many arcs lead into each vertex of g, a byte each
abbrev pub FansIn : ℕ → Graph → List ℕ → Type 0
FansIn N g fan = (length fan ≡ max_vertices) × ((v : ℕ) → v < N → get_or fan v 0 ≡ fan_in N g v)

-- each of the first n counts has room for an arc more
abbrev pub Raisable : ℕ → List ℕ → Type 0
Raisable n fan = (v : ℕ) → v < n → get_or fan v 0 < max_vertices

-- a row's arcs are added to the counts of their targets
abbrev pub Raised : ℕ → List ℤ → List ℕ → List ℕ → Type 0
Raised n row before after = (length after ≡ max_vertices) × ((v : ℕ) → v < n → get_or after v 0 ≡ get_or before v 0 + bit (cell_at row v))

-- each of the first n counts has an arc to take off
abbrev pub Lowerable : ℕ → List ℤ → List ℕ → Type 0
Lowerable n row fan = (v : ℕ) → v < n → bit (cell_at row v) ≤ get_or fan v 0

-- a row's arcs are taken off the counts of their targets
abbrev pub Lowered : ℕ → List ℤ → List ℕ → List ℕ → Type 0
Lowered n row before after = (length after ≡ max_vertices) × ((v : ℕ) → v < n → get_or after v 0 + bit (cell_at row v) ≡ get_or before v 0)

-- none of the first n counts, from `from` on, is 0
abbrev pub NoZero : ℕ → List ℕ → ℕ → Type 0
NoZero n fan from = (v : ℕ) → from ≤ v → v < n → get_or fan v 0 ≢ 0
