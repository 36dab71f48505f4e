-- A board's sizes, as check 1 and as facts.
use mathlib.Core.Path.{◌≡◌}
use mathlib.Core.Bool.{true, ◌&&◌}
use Prim.Native.Nat.{ℕ, ◌+◌, ◌*◌, ◌≤◌}
use native.Mathlib.Nat.{mul-le-mul_left}
use native.Mathlib.Omega.{arith}
use lib.Dec.{T, leb, le→leb}
use Rattle.laws.proofs.Booleans.{and_i, T_true}
use Rattle.laws.proofs.Grid.{area}
use Rattle.timing.specs.Limits.{max_vertices, scratch_cells}
use Rattle.timing.specs.Checks.{sizes_fit}
use Rattle.paths.specs.declared.board.Board.{Board}

pub board_fits : (b : Board) → T (sizes_fit b.inputs b.outputs b.vertices)
unfolding sizes_fit
board_fits b =
    let s = b.sized in
    and_i (leb 1 b.inputs && leb 1 b.outputs && leb (b.inputs + b.outputs) b.vertices) (leb b.vertices max_vertices)
    (and_i (leb 1 b.inputs && leb 1 b.outputs) (leb (b.inputs + b.outputs) b.vertices)
    (and_i (leb 1 b.inputs) (leb 1 b.outputs) (le→leb 1 b.inputs s.some_inputs) (le→leb 1 b.outputs s.some_outputs))
    (le→leb (b.inputs + b.outputs) b.vertices s.roles)) (le→leb b.vertices max_vertices s.few)

pub board_passes : (b : Board) → sizes_fit b.inputs b.outputs b.vertices ≡ true
board_passes b = T_true (board_fits b)

pub board_area : (b : Board) → b.vertices * b.vertices ≤ 8100
board_area b = area b.vertices max_vertices b.sized.few

-- ---- the scratch cells that a call may use

-- up to four lists of a cell for each vertex
pub lanes_fit : (N k : ℕ) → k ≤ 4 → N * k ≤ scratch_cells N
lanes_fit N k h = omega (arith, mul-le-mul_left N h)
