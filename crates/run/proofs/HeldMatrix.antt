-- A run's start: the matrix has been computed, and no step is accepted yet.
use mathlib.Core.Path.{◌≡◌, ap, ◌∙◌, subst}
use mathlib.Core.List.{List, ◌++◌}
use Prim.Native.Nat.{ℕ, ◌+◌, ◌*◌, ◌<◌}
use native.Mathlib.Omega.{arith}
use lib.Dec.{T}
use lib.IntN.{ℤ, pos}
use lib.ListN.{length, length-append}
use Rattle.laws.specs.Lists.{rows}
use Rattle.laws.proofs.Lists.{length-rows, cell_rows}
use Rattle.graph.specs.Delay.{Delay}
use Rattle.graph.specs.Graph.{longest, walk}
use Rattle.graph.proofs.Closure.{walk_other}
use Rattle.timing.specs.Limits.{arrival_limit, absent_wide, fits}
use Rattle.timing.specs.Table.{read_cell, write_cell, graph_of}
use Rattle.timing.specs.Delays.{matrix, matrix_cells, arrival_in}
use Rattle.paths.specs.declared.board.Board.{Board}
use Rattle.paths.specs.Arrivals.{reached_limit}
use Rattle.paths.specs.Checked.{Passable}
use Rattle.paths.proofs.PathDelays.{walk_near}
use Rattle.paths.proofs.WalkBounds.{walk_far, read_far}
use Rattle.run.specs.Running.{Held}

module _ {b : Board} {t : List ℤ} {o : List ℕ} (p : Passable b t o) where
  abbrev entry : ℕ → ℕ → Delay
  entry i j = matrix b.inputs b.vertices (graph_of b.vertices t) i j

  -- an entry is a walk to another vertex
  entry_is : (i j : ℕ) → i < b.inputs → walk (longest (graph_of b.vertices t) b.vertices) i (b.inputs + j) ≡ entry i j
  unfolding matrix
  entry_is i j h = walk_other (longest (graph_of b.vertices t) b.vertices) i (b.inputs + j) (λ e. omega arith)

  module _ (M rest : List ℤ) (e : M ≡ matrix_cells b.inputs b.outputs b.vertices (graph_of b.vertices t) ++ rest) where
    pub held_start : Held b M t
    unfolding matrix_cells
    held_start = record {
      room = omega (arith, ap length e ∙ length-append (rows b.outputs b.inputs (λ i j. write_cell absent_wide (entry i j))) rest, length-rows b.outputs (λ i j. write_cell absent_wide (entry i j)) b.inputs);
      cells = λ i j hi hj.
          ap (λ (x : List ℤ). arrival_in x (b.outputs * i + j)) e
          ∙ ap (read_cell absent_wide) (cell_rows b.outputs b.inputs (λ i j. write_cell absent_wide (entry i j)) rest i j (pos 0) hi hj)
          ∙ read_far (entry i j) (subst (λ (d : Delay). T (fits reached_limit d)) (entry_is i j hi) (walk_far p i (below i hi) (b.inputs + j) (output j hj)));
      near = λ i j hi hj. subst (λ (d : Delay). T (fits arrival_limit d)) (entry_is i j hi) (walk_near p i (below i hi) (b.inputs + j) (output j hj));
    }
      where
        below : (i : ℕ) → i < b.inputs → i < b.vertices
        below i h = omega (arith, b.sized.roles)

        output : (j : ℕ) → j < b.outputs → b.inputs + j < b.vertices
        output j h = omega (arith, b.sized.roles)
