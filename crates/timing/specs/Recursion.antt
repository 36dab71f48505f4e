-- Source document 003's recursions for latest arrival and required times, and what the least margin comes to; proved in proofs/Recursion.antt and
-- proofs/Margins.antt of the definitions in Delays.antt and Margins.antt.
use Rattle.std.specs.Prelude.{◌≡◌, ℕ, ◌≤◌, ◌<◌}
use Rattle.graph.specs.Delay.{Delay, ◌⊕◌, ◌⊖◌, ◌⋏◌, greatest, smallest}
use Rattle.graph.specs.Graph.{Graph}
use Rattle.timing.specs.Delays.{matrix}
use Rattle.timing.specs.Margins.{own_time, least_margin}

-- AT: an input's is its own; another vertex's is the greatest of AT(u) + delay over its arcs in
pub record ArrivalTimes (m N : ℕ) (g : Graph) (a AT : ℕ → Delay) : Type 0 where
  pub input : (v : ℕ) → v < m → AT v ≡ a v
  pub other : (v : ℕ) → m ≤ v → v < N → AT v ≡ greatest N (λ u. AT u ⊕ g u v)

-- RT: the smallest of an output's own time and of RT(t) − delay over the arcs out
pub record RequiredTimes (m n N : ℕ) (g : Graph) (r RT : ℕ → Delay) : Type 0 where
  pub each : (v : ℕ) → v < N → RT v ≡ own_time m n r v ⋏ smallest N (λ t. RT t ⊖ g v t)

-- f meets a recursion, and whatever meets it is f at every vertex below N
pub record Only (Meets : (ℕ → Delay) → Type 0) (N : ℕ) (f : ℕ → Delay) : Type 0 where
  pub meets : Meets f
  pub only : (h : ℕ → Delay) → Meets h → (v : ℕ) → v < N → h v ≡ f v

-- the least margin is a function of the matrix: the least of r(j) − a(i) − M(i,j) over the joined pairs with both present
abbrev pub LeastOfPairs : ℕ → ℕ → ℕ → Graph → (ℕ → Delay) → (ℕ → Delay) → Type 0
LeastOfPairs m n N g a r = least_margin m n N g a r ≡ smallest m (λ i. smallest n (λ j. (r j ⊖ a i) ⊖ matrix m N g i j))
