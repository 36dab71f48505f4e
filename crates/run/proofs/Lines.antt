-- Rows and columns among the matrix's cells.
use Rattle.std.specs.Prelude.{Option, Result}
use mathlib.Core.Path.{◌≡◌, ap, ◌∙◌}
use mathlib.Core.List.{List}
use Prim.Native.Nat.{ℕ, ◌+◌, ◌-◌, ◌*◌, ◌≤◌, ◌<◌}
use native.Mathlib.Omega.{arith}
use lib.IntN.{ℤ}
use Rattle.graph.specs.Graph.{longest}
use Rattle.timing.specs.declared.Refusal.{Refusal}
use Rattle.timing.specs.Limits.{max_vertices}
use Rattle.timing.specs.Table.{graph_of}
use Rattle.timing.specs.Delays.{matrix, arrival_in}
use Rattle.timing.proofs.Most.{pairs-most}
use Rattle.paths.specs.declared.board.Board.{Board}
use Rattle.plans.specs.Comparing.{compared}
use Rattle.run.specs.Sides.{Side, Inputs, Outputs}
use Rattle.run.specs.Sides.{OnSide, first_of, count_of, across_of, line_of, place_of}
use Rattle.run.specs.Running.{Held}

pub pairs_fit : (b : Board) → b.outputs * b.inputs ≤ 2025
pairs_fit b = pairs-most b.outputs b.inputs (omega (arith, b.sized.roles, b.sized.few))

pub side_fits : (side : Side) (b : Board) → first_of side b.inputs + count_of side b.inputs b.outputs ≤ max_vertices
side_fits Inputs b = omega (arith, b.sized.roles, b.sized.few)
side_fits Outputs b = omega (arith, b.sized.roles, b.sized.few)

-- and the cell there holds it
module _ {b : Board} {M t : List ℤ} (held : Held b M t) where
  pub held_line : (side : Side) (v j : ℕ) → OnSide b side v → j < across_of side b.inputs b.outputs → arrival_in M (place_of side b.inputs b.outputs v j) ≡ line_of side b.inputs b.vertices (graph_of b.vertices t) v j
  unfolding matrix
  held_line Inputs v j h l = held.cells v j (omega (arith, h.below)) l
  held_line Outputs v j h l = held.cells j (v - b.inputs) l (omega (arith, h.from, h.below)) ∙ ap (longest (graph_of b.vertices t) b.vertices j) (omega (arith, h.from))

  -- what one entry more says, of the lines
  pub compared_entry : (side : Side) (v w j : ℕ) → OnSide b side v → OnSide b side w → j < across_of side b.inputs b.outputs → (p q : ℕ) → p ≡ place_of side b.inputs b.outputs v j → q ≡ place_of side b.inputs b.outputs w j
      → (s : Option ℤ) {r : Result (Option ℤ) Refusal} → r ≡ compared s (arrival_in M p) (arrival_in M q) → r ≡ compared s (line_of side b.inputs b.vertices (graph_of b.vertices t) v j) (line_of side b.inputs b.vertices (graph_of b.vertices t) w j)
  compared_entry side v w j on_v on_w l p q p_is q_is s now =
      now ∙ (λ i. compared s ((ap (arrival_in M) p_is ∙ held_line side v j on_v l) i) ((ap (arrival_in M) q_is ∙ held_line side w j on_w l) i))
