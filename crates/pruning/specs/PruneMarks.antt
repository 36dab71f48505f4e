-- The marks that prune makes on the cells of a table, and the table that they leave.
use Rattle.std.specs.Prelude.{◌≡◌, Bool, false, not, cond, ◌&&◌, ◌||◌, List, ℕ, ◌+◌, ◌*◌, ◌≤◌, ◌<◌, ℤ, length, get_or}
use Rattle.laws.specs.Bounded.{some}
use Rattle.graph.specs.Delay.{Delay, absent, present}
use Rattle.graph.specs.Graph.{Graph, longest}
use Rattle.timing.specs.Limits.{absent_wide}
use Rattle.timing.specs.Table.{read_cell, graph_of}
use Rattle.timing.specs.Delays.{arrival_in}
use Rattle.reduction.specs.Outcome.{every_pair}
use Rattle.reduction.specs.Prune.{critical}
use Rattle.paths.specs.declared.board.Board.{Board}
use Rattle.paths.specs.Arrivals.{delays_from}
use Rattle.pruning.specs.TightArcs.{tight, decides_from}

-- the arc v of a row is tight; a is the arrival at the row's vertex
abbrev pub tight_in : (ℕ → Delay) → ℤ → List ℤ → ℕ → Bool
tight_in row a f v = tight (read_cell absent_wide a) (row v) (arrival_in f v)

-- such arcs of a row are marked too, and r says whether there is one
pub record RowMarked (row : ℕ → Delay) (a : ℤ) (f : List ℤ) (marks₀ marks : List Bool) (r : Bool) : Type 0 where
  pub cells : (v : ℕ) → v < length marks₀ → get_or marks v false ≡ (get_or marks₀ v false || tight_in row a f v)
  pub found : r ≡ some (length marks₀) (tight_in row a f)

-- the arcs of which f holds are marked too
abbrev pub AlsoMarked : ℕ → (ℕ → ℕ → Bool) → List Bool → List Bool → Type 0
AlsoMarked N f marks₀ marks = (u v : ℕ) → u < N → v < N → get_or marks (N * u + v) false ≡ (get_or marks₀ (N * u + v) false || f u v)

-- those that decide a delay from i
abbrev pub MarkedFrom : Board → ℕ → List ℤ → List Bool → List Bool → Type 0
MarkedFrom b i t = AlsoMarked b.vertices (decides_from b.inputs b.outputs (longest (graph_of b.vertices t) b.vertices) (graph_of b.vertices t) i)

-- those that decide one from an input from i on, as many as there are lanes
abbrev pub MarkedEach : ℕ → ℕ → Board → List ℤ → List Bool → List Bool → Type 0
MarkedEach lanes i b t = AlsoMarked b.vertices (λ u v. some lanes (λ l. decides_from b.inputs b.outputs (longest (graph_of b.vertices t) b.vertices) (graph_of b.vertices t) (i + l) u v))

-- f has the greatest delays from input i
pub record DelaysIn (b : Board) (t : List ℤ) (i : ℕ) (f : List ℤ) : Type 0 where
  pub input : i < b.inputs
  pub room : b.vertices ≤ length f
  pub arrivals : (v : ℕ) → v < b.vertices → arrival_in f v ≡ delays_from b t i v

-- f has those from some input
pub record FromInput (b : Board) (t : List ℤ) (f : List ℤ) : Type 0 where
  pub input : ℕ
  pub delays : DelaysIn b t input f

-- the arcs that decide a delay from the input whose delays f has are marked too
abbrev pub Swept : Board → List ℤ → List ℤ → List Bool → List Bool → Type 0
Swept b t f marks₀ marks = (i : ℕ) → DelaysIn b t i f → MarkedFrom b i t marks₀ marks

-- those that decide a delay
abbrev pub stays : Board → List ℤ → ℕ → ℕ → Bool
stays b t = critical every_pair b.inputs b.outputs b.vertices (graph_of b.vertices t)

abbrev pub DecidingMarked : Board → List ℤ → List Bool → List Bool → Type 0
DecidingMarked b t = AlsoMarked b.vertices (stays b t)

-- the marks are those of the arcs that stay
abbrev pub StayMarked : Board → List ℤ → List Bool → Type 0
StayMarked b t marks = (u v : ℕ) → u < b.vertices → v < b.vertices → get_or marks (b.vertices * u + v) false ≡ stays b t u v

-- room for the marks, all of them off
pub record Unmarked (b : Board) (marks : List Bool) : Type 0 where
  pub room : b.vertices * b.vertices ≤ length marks
  pub off : (x : ℕ) → x < b.vertices * b.vertices → get_or marks x false ≡ false

-- some arc has no mark
abbrev pub some_unmarked : ℕ → Graph → List Bool → Bool
some_unmarked N g marks = some N (λ u. some N (λ v. present (g u v) && not (get_or marks (N * u + v) false)))

-- the arcs with a mark
abbrev pub marked_arcs : ℕ → List Bool → Graph → Graph
marked_arcs N marks g u v = cond (get_or marks (N * u + v) false) (g u v) absent
