-- Required times and margins over a table that has passed its checks.
use Rattle.timing.specs.declared.Refusal.{Refusal}
use Rattle.std.specs.Prelude.{Result, ◌≡◌, Bool, ◌&&◌, List, ℕ, ◌≤◌, ◌<◌, T, ℤ, length}
use Rattle.graph.specs.Delay.{Delay, ◌⋓◌, ◌⊕◌, mirror, greatest}
use Rattle.graph.specs.Graph.{reversed, propagated}
use Rattle.timing.specs.Limits.{absent_wide, fits}
use Rattle.timing.specs.Refusal.{Verdict}
use Rattle.timing.specs.Table.{read_cell, write_cell}
use Rattle.timing.specs.Delays.{arrival_in, arrivals_fit}
use Rattle.timing.specs.Margins.{own_time, required_at, Times, times_fit, margins_into, margins_call}
use Rattle.paths.specs.declared.board.Board.{Board}
use Rattle.paths.specs.Board.{graph_in}
use Rattle.paths.specs.Chain.{walked_at}
use Rattle.paths.specs.Arrivals.{reached_limit}
use Rattle.paths.specs.Queries.{Fills}

-- n cells, each absent or far from the ends of its 64 bits
pub record InReach (n : ℕ) (f : List ℤ) : Type 0 where
  pub room : n ≤ length f
  pub near : (v : ℕ) → v < n → T (fits reached_limit (arrival_in f v))

-- r is the latest of what starts at a vertex and what comes back over the arcs that its chain walks
abbrev pub Pulled : ℕ → List ℤ → List ℕ → ℤ → List ℤ → ℤ → Type 0
Pulled n row c start f r = read_cell absent_wide r ≡ read_cell absent_wide start ⋓ greatest n (λ v. arrival_in f v ⊕ walked_at row c v)

-- the latest that comes back to each vertex where what is in f starts
abbrev pub latest_back : Board → List ℤ → List ℤ → ℕ → Delay
latest_back b t f = propagated b.vertices (reversed (graph_in b t)) (arrival_in f)

-- the outputs' required times in r, mirrored, and none at any other vertex
abbrev pub own_from : Board → List ℤ → ℕ → ℤ
own_from b r v = write_cell absent_wide (mirror (own_time b.inputs b.outputs (arrival_in r) v))

abbrev pub required_from : Board → List ℤ → List ℤ → ℕ → Delay
required_from b t r = required_at b.inputs b.outputs b.vertices (graph_in b t) (arrival_in r)

-- three lent lists
abbrev pub lists : List ℤ → List ℤ → List ℤ → Times
lists x y z = record { arrival = x; required = y; margin = z }

abbrev pub lists_fit : Board → List ℤ → List ℤ → Times → Bool
lists_fit b a r x = arrivals_fit b.inputs a && arrivals_fit b.outputs r && times_fit b.vertices x

-- the call after its checks, at a board's table
abbrev pub margins_on : Board → List ℤ → List ℤ → List ℤ → Times → Verdict Times
margins_on b t a r x = margins_into b.inputs b.outputs b.vertices a r x (graph_in b t)

-- the whole call, of lent slices
abbrev pub margins : ℕ → ℕ → ℕ → List ℤ → List ℤ → List ℤ → List ℤ → Times → Verdict Times
margins m n N table scratch given due x = margins_call m n N (length scratch) table given due x

-- r and three lent lists afterwards are what the call says of the lists as they were
abbrev pub Timed : (Times → Verdict Times) → Times → Times → Result (Unit {0}) Refusal → Type 0
Timed call before after r = Fills (call before) before after r
