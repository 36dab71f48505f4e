-- The parts of the shares' conditions.
use Rattle.std.specs.Borrow.{Bor}
use Rattle.std.specs.Prelude.{◌≡◌, ◌≢◌, Bool, Option, Some, IfSome, List, ℕ, ◌+◌, ◌≤◌, ◌<◌, T, ℤ, length}
use Rattle.graph.specs.Delay.{present}
use Rattle.graph.specs.Graph.{longest}
use Rattle.timing.specs.Limits.{arrival_limit, fits}
use Rattle.timing.specs.Delays.{arrival_in}
use Rattle.paths.specs.declared.board.Board.{Board}
use Rattle.paths.specs.Board.{graph_in}
use Rattle.paths.specs.Order.{TopologicalOrder, stands_before}
use Rattle.sets.specs.declared.Set.{Set}
use Rattle.sets.specs.Sets.{holds}
use Rattle.reach.specs.RowSets.{RowSets}
use Rattle.plans.specs.OnBoards.{leaves_undriven_on}

-- two outputs
pub record TwoOutputs (board : Board) (a b : ℕ) : Type 0 where
  pub no_input_a : board.inputs ≤ a
  pub no_input_b : board.inputs ≤ b
  pub below_a : a < board.vertices
  pub below_b : b < board.vertices
  pub two : a ≢ b

-- the sets, where they are made, are the table's rows
abbrev pub Indexed : Board → List ℤ → Option (List Set) → Type 0
Indexed board t rows = IfSome rows (RowSets board.vertices (graph_in board t))

-- the members are the inputs after a share of which arcs are left that go
abbrev pub SoleDrivers : Board → List ℤ → Set → Type 0
SoleDrivers board t drivers = (v : ℕ) → v < board.vertices → holds drivers v ≡ leaves_undriven_on board t v

-- the same of a set, where it is made
abbrev pub DriversOf : Board → List ℤ → Option Set → Type 0
DriversOf board t drivers = IfSome drivers (SoleDrivers board t)

-- the order, where there is one, is one of the table's
abbrev pub OrderOf : Board → List ℤ → Option (Bor (List ℕ)) → Type 0
OrderOf board t order = IfSome order (λ o. TopologicalOrder board.vertices (graph_in board t) o.now)

-- a stands before b in the order
abbrev pub IsAhead : ℕ → Option (Bor (List ℕ)) → ℕ → ℕ → Type 0
IsAhead n order a b = (o : Bor (List ℕ)) × (order ≡ Some o) × T (stands_before n o.now a b)

-- a path leads from u to v
abbrev pub path_on : Board → List ℤ → ℕ → ℕ → Bool
path_on board t u v = present (longest (graph_in board t) board.vertices u v)

-- delays to every vertex in the first N cells, and in the next N
pub record TwoVectors (board : Board) (f : List ℤ) : Type 0 where
  pub room : board.vertices + board.vertices ≤ length f
  pub near : (v : ℕ) → v < board.vertices → T (fits arrival_limit (arrival_in f v)) × T (fits arrival_limit (arrival_in f (board.vertices + v)))
