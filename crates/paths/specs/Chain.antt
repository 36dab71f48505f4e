-- Chains: after each cell of a row, the next arc of the row that a pass walks. It may leave out arcs that are beaten.
use Rattle.std.specs.Prelude.{◌≡◌, ◌⊎◌, Bool, true, false, cond, List, ℕ, ◌+◌, ◌-◌, ◌*◌, ◌≤◌, ◌<◌, T, eqb, ℤ, length, get_or}
use Rattle.std.specs.Int.Signed.{lt_z}
use Rattle.graph.specs.Delay.{Delay, absent, at, present, ◌⊕◌, ◌⊑◌}
use Rattle.graph.specs.Graph.{Graph}
use Rattle.timing.specs.Limits.{max_vertices, delay_limit, fits}
use Rattle.timing.specs.Table.{graph_of}
use Rattle.paths.specs.Cells.{cell_at}

-- after cell v the row's next arc is at c v, and there is none where that is n
pub record Chain (n : ℕ) (row : ℕ → Delay) (c : ℕ → ℕ) : Type 0 where
  pub on : (v : ℕ) → v < n → (v < c v) × (c v ≤ n)
  pub arc : (v : ℕ) → v < n → c v < n → T (present (row (c v)))
  pub between : (v w : ℕ) → v < n → v < w → w < c v → row w ≡ absent

-- the arcs of a row that a chain walks: those that come next after the cell before them
unfoldable pub walked : (ℕ → ℕ) → (ℕ → Delay) → ℕ → Delay
walked c row v = cond (eqb (c (v - 1)) v) (row v) absent

-- of a lent row and its lent chain
abbrev pub walked_at : List ℤ → List ℕ → ℕ → Delay
walked_at row c = walked (λ v. get_or c v 0) (cell_at row)

-- two arcs, by way of another vertex, take longer than the arc u→v
pub record Beaten (g : Graph) (u v : ℕ) : Type 0 where
  pub via : ℕ
  pub longer : ¬ (g u via ⊕ g via v ⊑ g u v)

-- a chain of the arcs that leave u: those that it does not walk are beaten
pub record Chained (n : ℕ) (g : Graph) (u : ℕ) (c : ℕ → ℕ) : Type 0 where
  pub chain : Chain n (walked c (g u)) c
  pub rest : (v : ℕ) → v < n → ∥ (walked c (g u) v ≡ g u v) ⊎ Beaten g u v ∥₁

-- a row's cells in the list of all chains
abbrev pub chain_at : ℕ → List ℕ → ℕ → ℕ → ℕ
chain_at n c u v = get_or c (n * u + v) 0

-- a chain for each row of a table
pub record Chains (n : ℕ) (t : List ℤ) (c : List ℕ) : Type 0 where
  pub room : n * n ≤ length c
  pub row : (u : ℕ) → u < n → Chained n (graph_of n t) u (chain_at n c u)

-- x is less than y, as a test
unfoldable pub below : Delay → Delay → Bool
below x absent = false
below absent (at b) = true
below (at a) (at b) = lt_z a b

-- a row without the arcs that are beaten by an arc of delay d, if there is one, and then one of the row `next`
unfoldable pub unbeaten : (ℕ → Delay) → (ℕ → Delay) → Delay → ℕ → Delay
unbeaten row next d v = cond (below (row v) (d ⊕ next v)) absent (row v)

-- n cells of a row, each absent or within the limits
pub record Near (n : ℕ) (row : List ℤ) : Type 0 where
  pub room : n ≤ length row
  pub near : (v : ℕ) → v < n → T (fits delay_limit (cell_at row v))

-- a row of cells, each absent or within the limits, with a chain of its arcs
pub record Walkable (row : List ℤ) (c : List ℕ) : Type 0 where
  pub some : 1 ≤ length row
  pub few : length row ≤ max_vertices
  pub linked : length row ≤ length c
  pub near : (v : ℕ) → v < length row → T (fits delay_limit (cell_at row v))
  pub chain : Chain (length row) (walked_at row c) (λ v. get_or c v 0)
