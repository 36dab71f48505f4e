-- The steps that name one vertex: shrink for the inner ones, merge back for the outputs.
use Rattle.std.specs.Prelude.{List, map, ℕ, ◌+◌, ◌-◌}
use Rattle.reduction.specs.Steps.{Step, shrink, merge_back}
use Rattle.reduction.specs.Run.{Try, numbers, try_step}
use Rattle.paths.specs.declared.board.Board.{Board}

pub data VertexStep : Type 0 where
  Shrink : VertexStep
  MergeBack : VertexStep

abbrev pub vertex_step : VertexStep → ℕ → Step
vertex_step Shrink k = shrink k
vertex_step MergeBack o = merge_back o

-- of m inputs, n outputs and N vertices: the first vertex, and how many there are
abbrev pub first_vertex : VertexStep → ℕ → ℕ → ℕ
first_vertex Shrink m n = m + n
first_vertex MergeBack m n = m

abbrev pub vertex_count : VertexStep → ℕ → ℕ → ℕ → ℕ
vertex_count Shrink m n N = N - (m + n)
vertex_count MergeBack m n N = n

abbrev pub vertex_tries : ℕ → ℕ → ℕ → VertexStep → ℕ → List Try
vertex_tries m n N kind s = map (λ v. try_step m n N s (vertex_step kind v)) (numbers (first_vertex kind m n) (vertex_count kind m n N))

-- on a board
abbrev pub kind_tries : Board → VertexStep → ℕ → List Try
kind_tries b kind = vertex_tries b.inputs b.outputs b.vertices kind

abbrev pub vertex_end : Board → VertexStep → ℕ
vertex_end b kind = first_vertex kind b.inputs b.outputs + vertex_count kind b.inputs b.outputs b.vertices
