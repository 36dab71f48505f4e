-- What a loop over a row's cells hands on, and what is left of the row after it.
use mathlib.Core.Path.{◌≡◌, sym, ap, ◌∙◌, subst}
use mathlib.Core.List.{List, ◌++◌}
use Prim.Native.Nat.{ℕ, ◌+◌, ◌*◌, ◌<◌}
use lib.Dec.{T}
use lib.IntN.{ℤ, pos}
use lib.ListN.{get_or}
use Rattle.std.specs.List.{flat_map}
use Rattle.graph.specs.Delay.{Delay}
use Rattle.timing.specs.Limits.{absent_cell, delay_limit, fits}
use Rattle.timing.specs.Table.{read_cell}
use Rattle.timing.proofs.Table.{graph_of_at}
use Rattle.timing.proofs.Checks.{sound_fits}
use Rattle.paths.specs.declared.board.Board.{Board}
use Rattle.paths.specs.Board.{graph_in}
use Rattle.paths.specs.Checked.{Checked}
use Rattle.format.specs.Arcs.{Arc, arc_in, row_arcs}
use Rattle.files.specs.Forms.{cell_as}
use Rattle.files.proofs.Turns.{left, left_next}
use Rattle.files.proofs.ArcParts.{row_parts}
use Rattle.files.proofs.ArcForms.{arcs_join}

-- `held` is the cell, as the code holds it
module _ {b : Board} {t : List ℤ} (k : Checked b t) (u v : ℕ) (x : u < b.vertices) (y : v < b.vertices) {held : ℤ} (is : held ≡ get_or t (b.vertices * u + v) (pos 0)) where
  says : graph_in b t u v ≡ read_cell absent_cell held
  says = graph_of_at b.vertices t u v x y ∙ ap (read_cell absent_cell) (sym is)

  pub row_fits : T (fits delay_limit (read_cell absent_cell held))
  row_fits = subst (λ (d : Delay). T (fits delay_limit d)) says (sound_fits k.sound u v)

  pub row_next : (text : Arc → List ℕ) → left (flat_map text) (row_arcs (graph_in b t) u) b.vertices v ≡ cell_as text u v held ++ left (flat_map text) (row_arcs (graph_in b t) u) b.vertices (v + 1)
  row_next text =
      left_next (arcs_join text) (row_parts (graph_in b t) u) b.vertices v y
      ∙ ap (λ (d : Delay). flat_map text (arc_in u v d) ++ left (flat_map text) (row_arcs (graph_in b t) u) b.vertices (v + 1)) says
