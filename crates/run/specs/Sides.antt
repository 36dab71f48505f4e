-- The two sides of the delay matrix: share inputs compares its rows, share outputs its columns.
use Rattle.std.specs.Prelude.{Bool, List, [], ◌∷◌, ℕ, ◌+◌, ◌-◌, ◌*◌, ◌≤◌, ◌<◌, leb, ℤ}
use Rattle.graph.specs.Delay.{Delay}
use Rattle.graph.specs.Graph.{Graph}
use Rattle.graph.specs.Count.{fan_out}
use Rattle.timing.specs.Delays.{matrix, column}
use Rattle.reduction.specs.ShareOutputs.{enough_in}
use Rattle.reduction.specs.Steps.{Step, share_inputs, share_outputs}
use Rattle.reduction.specs.Run.{Try, numbers, pairs, try_step, try_share_inputs}
use Rattle.paths.specs.declared.board.Board.{Board}
use Rattle.paths.specs.Board.{graph_in}

pub data Side : Type 0 where
  Inputs : Side
  Outputs : Side

-- of m inputs and n outputs: the side's first vertex, how many it has, and how many entries of the matrix each has
abbrev pub first_of : Side → ℕ → ℕ
first_of Inputs m = 0
first_of Outputs m = m

abbrev pub count_of : Side → ℕ → ℕ → ℕ
count_of Inputs m n = m
count_of Outputs m n = n

abbrev pub across_of : Side → ℕ → ℕ → ℕ
across_of Inputs m n = n
across_of Outputs m n = m

pub record OnSide (b : Board) (side : Side) (v : ℕ) : Type 0 where
  pub from : first_of side b.inputs ≤ v
  pub below : v < first_of side b.inputs + count_of side b.inputs b.outputs

-- vertex v's row or column of the matrix, and the place of its j-th entry among the matrix's cells, row by row
abbrev pub line_of : Side → ℕ → ℕ → Graph → ℕ → ℕ → Delay
line_of Inputs m N g v j = matrix m N g v j
line_of Outputs m N g v j = column N g v j

abbrev pub place_of : Side → ℕ → ℕ → ℕ → ℕ → ℕ
place_of Inputs m n v j = n * v + j
place_of Outputs m n v j = n * j + (v - m)

-- a share of the side, k its new number
abbrev pub share_step : Side → ℕ → ℕ → ℕ → Step
share_step Inputs a b k = share_inputs a b k
share_step Outputs a b k = share_outputs a b

-- whether vertex v has arcs enough to be the second of a share
abbrev pub is_rich : Side → ℕ → Graph → ℕ → Bool
is_rich Inputs N g v = leb 2 (fan_out N g v)
is_rich Outputs N g v = enough_in N g v

-- its tries in a round
abbrev pub try_share : ℕ → ℕ → ℕ → Side → ℕ → ℕ → ℕ → Try
try_share m n N Inputs s a b = try_share_inputs m n N s a b
try_share m n N Outputs s a b = try_step m n N s (share_outputs a b)

abbrev pub share_tries : ℕ → ℕ → ℕ → Side → ℕ → List Try
share_tries m n N side s =
    pairs (try_share m n N side s) (numbers (first_of side m) (count_of side m n)) (numbers (first_of side m) (count_of side m n))

-- on a board: all of them, and the try of one pair
abbrev pub side_tries : Board → Side → ℕ → List Try
side_tries b side = share_tries b.inputs b.outputs b.vertices side

abbrev pub pair_try : Board → Side → ℕ → ℕ → ℕ → List Try
pair_try b side x y s = try_share b.inputs b.outputs b.vertices side s x y ∷ []

-- the side's vertices end before this number
abbrev pub end_of : Board → Side → ℕ
end_of b side = first_of side b.inputs + count_of side b.inputs b.outputs

abbrev pub rich_on : Board → Side → List ℤ → ℕ → Bool
rich_on b side t v = is_rich side b.vertices (graph_in b t) v
