-- Arrivals over a table that has passed its checks.
use Rattle.std.specs.Prelude.{◌≡◌, ◌≢◌, Bool, true, false, cond, List, ◌++◌, ℕ, ◌+◌, ◌-◌, ◌*◌, ◌≤◌, ◌<◌, T, eqb, ltb, ℤ, pos, ◌+ℤ◌, length, get_or, take, drop}
use Rattle.std.specs.Int.{w64}
use Rattle.std.proofs.Common.{SFits}
use Rattle.laws.specs.Lists.{tabulate}
use Rattle.graph.specs.Delay.{Delay, at, ◌⋓◌, ◌⊕◌}
use Rattle.graph.specs.Graph.{longest, walk, propagated}
use Rattle.timing.specs.Limits.{max_vertices, delay_limit, absent_cell, absent_wide, fits}
use Rattle.timing.specs.Table.{read_cell, write_cell}
use Rattle.timing.specs.Delays.{arrival_in, arrival_at}
use Rattle.paths.specs.declared.board.Board.{Board}
use Rattle.paths.specs.Chain.{walked_at}
use Rattle.paths.specs.Board.{graph_in}

-- inside, arrivals may start within ±2,000,000,000,000
abbrev pub inside_limit : ℕ
inside_limit = 2000000000000

-- and a path adds at most this much on the way
abbrev pub reached_limit : ℕ
reached_limit = inside_limit + max_vertices * delay_limit

-- the first N cells are c's, the others as they were
abbrev pub stored : ℕ → (ℕ → ℤ) → List ℤ → List ℤ
stored N c f = tabulate N c ++ drop N f

-- the first N cells hold delays h, the others are as they were
abbrev pub filled : ℕ → (ℕ → Delay) → List ℤ → List ℤ
filled N h f = stored N (λ v. write_cell absent_wide (h v)) f

-- run l of the runs of N cells that stand one after another in f
abbrev pub lane : ℕ → ℕ → List ℤ → List ℤ
lane N l f = take N (drop (N * l) f)

-- something holds of each lane
abbrev pub EachLane : ℕ → (ℕ → Type 0) → Type 0
EachLane lanes P = (l : ℕ) → l < lanes → P l

-- a signal at i alone
abbrev pub only_at : ℕ → ℕ → ℤ
only_at i v = cond (eqb v i) (pos 0) absent_wide

-- the inputs' arrivals, and none at any other vertex
abbrev pub from_list : List ℤ → ℕ → ℤ
from_list a v = cond (ltb v (length a)) (get_or a v (pos 0)) absent_wide

-- the times in a from vertex `first` on, and none at any other
abbrev pub times_at : ℕ → List ℤ → ℕ → ℤ
times_at first a v = cond (ltb v first) absent_wide (from_list a (v - first))

-- the latest arrivals where those in f start; the greatest delays from i; the arrivals from the inputs' in a
abbrev pub latest_from : Board → List ℤ → List ℤ → ℕ → Delay
latest_from b t f = propagated b.vertices (graph_in b t) (arrival_in f)

abbrev pub delays_from : Board → List ℤ → ℕ → ℕ → Delay
delays_from b t i = walk (longest (graph_in b t) b.vertices) i

abbrev pub arrivals_from : Board → List ℤ → List ℤ → ℕ → Delay
arrivals_from b t a = arrival_at b.inputs b.vertices (graph_in b t) (arrival_in a)

-- the greatest delays from i and the vertices after it, in a lane each
abbrev pub DelayLanes : Board → List ℤ → ℕ → ℕ → List ℤ → List ℤ → Type 0
DelayLanes b t lanes i f₀ f = EachLane lanes (λ l. lane b.vertices l f ≡ filled b.vertices (delays_from b t (i + l)) (lane b.vertices l f₀))

-- arrivals that start at n vertices
pub record Starts (n : ℕ) (f : List ℤ) : Type 0 where
  pub room : n ≤ length f
  pub near : (v : ℕ) → v < n → T (fits inside_limit (arrival_in f v))

-- an arrival that is present, and far from the ends of its 64 bits
pub record Reached (a : ℤ) : Type 0 where
  pub there : a ≢ absent_wide
  pub near : T (fits reached_limit (at a))

-- r says whether a and then the cell's delay is later than best; the sum then fits
pub record Gains (best a cell : ℤ) (r : Bool) : Type 0 where
  pub later : r ≡ true → SFits w64 (a +ℤ cell) × (read_cell absent_wide (a +ℤ cell) ≡ read_cell absent_wide best ⋓ (read_cell absent_wide a ⊕ read_cell absent_cell cell))
  pub not_later : r ≡ false → read_cell absent_wide best ≡ read_cell absent_wide best ⋓ (read_cell absent_wide a ⊕ read_cell absent_cell cell)

-- the cell at x is the later of what was there and what comes over an arc
pub record Offered (x : ℕ) (a cell : ℤ) (f₀ f : List ℤ) : Type 0 where
  pub here : arrival_in f x ≡ arrival_in f₀ x ⋓ (read_cell absent_wide a ⊕ read_cell absent_cell cell)
  pub others : (y : ℕ) → y ≢ x → get_or f y (pos 0) ≡ get_or f₀ y (pos 0)

-- in each lane the cell of v is the later of what was there and what comes over an arc, a l in lane l
pub record OfferedEach (lanes n v : ℕ) (a : ℕ → ℤ) (cell : ℤ) (f₀ f : List ℤ) : Type 0 where
  pub here : EachLane lanes (λ l. arrival_in f (n * l + v) ≡ arrival_in f₀ (n * l + v) ⋓ (read_cell absent_wide (a l) ⊕ read_cell absent_cell cell))
  pub others : (y : ℕ) → EachLane lanes (λ l. y ≢ n * l + v) → get_or f y (pos 0) ≡ get_or f₀ y (pos 0)

-- a is pushed along the arcs that a chain walks
pub record Pushed (n : ℕ) (row : List ℤ) (c : List ℕ) (a : ℤ) (f₀ f : List ℤ) : Type 0 where
  pub cells : (v : ℕ) → v < n → arrival_in f v ≡ arrival_in f₀ v ⋓ (read_cell absent_wide a ⊕ walked_at row c v)
  pub rest : (v : ℕ) → n ≤ v → get_or f v (pos 0) ≡ get_or f₀ v (pos 0)

-- a list of k times, each absent or within the inside limit
pub record Given (k : ℕ) (a : List ℤ) : Type 0 where
  pub long : length a ≡ k
  pub near : (i : ℕ) → i < k → T (fits inside_limit (arrival_in a i))
