-- Two rows or two columns of the delay matrix.
use Rattle.std.specs.Prelude.{◌≡◌, ◌≢◌, List, ℕ, ℤ}
use Rattle.timing.specs.Refusal.{Verdict, accepted}
use Rattle.timing.specs.Table.{graph_of}
use Rattle.reduction.specs.Common.{common_difference}
use Rattle.paths.specs.declared.board.Board.{Board}
use Rattle.run.specs.Sides.{Side, OnSide, across_of, line_of}

-- two vertices of a side
pub record Pair (side : Side) (board : Board) (a b : ℕ) : Type 0 where
  pub one : OnSide board side a
  pub other : OnSide board side b
  pub two : a ≢ b

-- the common difference of their rows or columns, or its refusal
abbrev pub compared_by : Side → Board → List ℤ → ℕ → ℕ → Verdict ℤ
compared_by side board t a b =
    common_difference (across_of side board.inputs board.outputs)
    (line_of side board.inputs board.vertices (graph_of board.vertices t) a)
    (line_of side board.inputs board.vertices (graph_of board.vertices t) b)

abbrev pub Compared : Side → Board → List ℤ → ℕ → ℕ → ℤ → Type 0
Compared side board t a b e = compared_by side board t a b ≡ accepted e
