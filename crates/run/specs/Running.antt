-- A run under way.
use Rattle.std.specs.Prelude.{◌≡◌, Bool, true, false, not, List, [], ◌∷◌, ℕ, ◌+◌, ◌*◌, ◌≤◌, ◌<◌, T, ℤ, length, get_or}
use Rattle.graph.specs.Count.{arcs}
use Rattle.timing.specs.Limits.{max_vertices, arrival_limit, scratch_cells, fits}
use Rattle.timing.specs.Refusal.{Verdict, accepted, is_accepted}
use Rattle.timing.specs.Table.{graph_of}
use Rattle.timing.specs.Delays.{matrix, arrival_in}
use Rattle.reduction.specs.Run.{Progress, Try, round, tries, try_step, try_star}
use Rattle.reduction.specs.Steps.{Step, prune}
use Rattle.reduction.specs.Lean.{LeanTable}
use Rattle.paths.specs.declared.board.Board.{Board}
use Rattle.paths.specs.Checked.{Checked}
use Rattle.plans.specs.OnBoards.{fresh_on, table_by}
use Rattle.run.specs.Sides.{Side, Inputs, OnSide, is_rich, share_step}

abbrev pub progress : List ℤ → ℕ → Progress
progress t c = record { table = t; steps = c }

-- the table passes its checks, and each step so far has cost it an arc
pub record Running (b : Board) (p : Progress) : Type 0 where
  pub checked : Checked b p.table
  pub bound : arcs b.vertices (graph_of b.vertices p.table) + p.steps ≤ max_vertices * max_vertices

-- the cells M begin with the table's delay matrix, row by row
pub record Held (b : Board) (M t : List ℤ) : Type 0 where
  pub room : b.outputs * b.inputs ≤ length M
  pub cells : (i j : ℕ) → i < b.inputs → j < b.outputs → arrival_in M (b.outputs * i + j) ≡ matrix b.inputs b.vertices (graph_of b.vertices t) i j
  pub near : (i j : ℕ) → i < b.inputs → j < b.outputs → T (fits arrival_limit (matrix b.inputs b.vertices (graph_of b.vertices t) i j))

-- what is known of the side's vertices before they are compared: which have arcs enough to be the second of a share
pub record Counted (side : Side) (b : Board) (t : List ℤ) (rich : List Bool) : Type 0 where
  pub long : length rich ≡ max_vertices
  pub each : (v : ℕ) → OnSide b side v → get_or rich v false ≡ is_rich side b.vertices (graph_of b.vertices t) v

-- r says whether v is accepted, and the table is then v's; a refused try changes no cell
pub record Tries (v : Verdict (List ℤ)) (before after : List ℤ) (r : Bool) : Type 0 where
  pub taken : r ≡ true → v ≡ accepted after
  pub refused : r ≡ false → T (not (is_accepted v)) × (after ≡ before)

-- a step's try
abbrev pub TriesStep : Board → Step → List ℤ → List ℤ → Bool → Type 0
TriesStep b q before after r = Tries (table_by b q before) before after r

-- no share of the side can be accepted: inputs are shared, and no number is free
abbrev pub Full : Side → Board → List ℤ → Type 0
Full side b t = (side ≡ Inputs) × (b.vertices ≤ fresh_on b t)

-- the try of a share, by the smallest free number where inputs are shared
abbrev pub TriesShare : Side → Board → ℕ → ℕ → List ℤ → List ℤ → Bool → Type 0
TriesShare side b x y before after r = TriesStep b (share_step side x y (fresh_on b before)) before after r

-- the tries qs lead from p to q, with any scratch that is long enough
abbrev pub Reaches : ℕ → (ℕ → List Try) → Progress → Progress → Type 0
Reaches N qs p q = (s : ℕ) → scratch_cells N ≤ s → round (qs s) p ≡ q

-- from a table and a count of steps to others
abbrev pub Leads : Board → (ℕ → List Try) → List ℤ → ℕ → List ℤ → ℕ → Type 0
Leads b qs t c t' c' = Reaches b.vertices qs (progress t c) (progress t' c')

-- the tries of a round, prune's alone and the finder's alone, on a board
abbrev pub tries_on : Board → ℕ → List Try
tries_on b = tries b.inputs b.outputs b.vertices

-- prune would take no arc
abbrev pub LeanOn : Board → List ℤ → Type 0
LeanOn b t = LeanTable b.inputs b.outputs b.vertices t

abbrev pub prune_try : Board → ℕ → List Try
prune_try b s = try_step b.inputs b.outputs b.vertices s prune ∷ []

abbrev pub star_try : Board → ℕ → List Try
star_try b s = try_star b.inputs b.outputs b.vertices s ∷ []
