-- A matrix that is filled row by row.
use Rattle.std.specs.Prelude.{Err, Ok}
use mathlib.Core.Path.{◌≡◌, ap, ◌∙◌}
use mathlib.Core.List.{List, ◌++◌}
use Prim.Native.Nat.{ℕ, ◌+◌, ◌-◌, ◌*◌, ◌≤◌, ◌<◌}
use native.Mathlib.Nat.{mul_comm}
use native.Mathlib.Omega.{arith}
use borrow.Author.Tests.{le-leb, lt-leb}
use lib.IntN.{ℤ, pos}
use lib.ListN.{length, get_or, take, drop, length-take, length-drop}
use borrow.Rule.Slice.PartMut.{put_mid}
use Rattle.laws.specs.Lists.{tabulate}
use Rattle.laws.proofs.Filling.{row_back}
use Rattle.laws.proofs.Grid.{row_cell}
use Rattle.laws.proofs.Lists.{tabulate_same, is_tabulate}
use Rattle.graph.specs.Graph.{Graph, longest}
use Rattle.graph.proofs.Closure.{walk_other}
use Rattle.timing.specs.Limits.{absent_wide}
use Rattle.timing.specs.Table.{write_cell, graph_of}
use Rattle.timing.specs.declared.Refusal.TheVariants.{DestinationShort}
use Rattle.timing.specs.Refusal.{accepted}
use Rattle.timing.specs.Delays.{matrix, matrix_cells}
use Rattle.timing.specs.Queries.{matrix_into}
use Rattle.paths.specs.Queries.{Fills, entry, RowsMade}
use Rattle.paths.specs.declared.board.Board.{Board}
use Rattle.paths.specs.Arrivals.{filled, delays_from}
use Rattle.paths.specs.Checked.{Passable}
use Rattle.paths.proofs.Starting.{stored_cell}

pub row_length : (n i : ℕ) (d : List ℤ) → n * i + n ≤ length d → length (take (n * i + n - n * i) (drop (n * i) d)) ≡ n
row_length n i d h = simp (length-take, length-drop) (omega arith)

-- the k cells from m on, as a copy has them
pub copied : (f : List ℤ) (m k : ℕ) → m + k ≤ length f → take (m + k - m) (drop m f) ≡ tabulate k (λ j. get_or f (m + j) (pos 0))
copied f m k h = is_tabulate (pos 0) (take (m + k - m) (drop m f)) k (λ j. get_or f (m + j) (pos 0)) (simp (length-take, length-drop) (omega arith)) (λ i l. row_cell f m (m + k - m) i (pos 0) (omega arith))

-- a row of the matrix comes back: d is the destination as it is now, s the scratch before the pass from i, s' after it
module _ {b : Board} {t : List ℤ} {o : List ℕ} (p : Passable b t o) (i : ℕ) (h : i < b.inputs) (d s s' ys : List ℤ) (room : b.outputs * i + b.outputs ≤ length d) (f : s' ≡ filled b.vertices (delays_from b t i) s)
    (q : ys ≡ tabulate (length (take (b.outputs * i + b.outputs - b.outputs * i) (drop (b.outputs * i) d))) (λ j. get_or s' (b.inputs + j) (pos 0))) where
  abbrev n : ℕ
  n = b.outputs

  row_is : ys ≡ tabulate n (entry b t i)
  unfolding matrix
  row_is =
      q ∙ ap (λ (k : ℕ). tabulate k (λ j. get_or s' (b.inputs + j) (pos 0))) (row_length n i d room)
      ∙ tabulate_same n (λ j. get_or s' (b.inputs + j) (pos 0)) (entry b t i)
      (λ j l. ap (λ (x : List ℤ). get_or x (b.inputs + j) (pos 0)) f
      ∙ stored_cell b.vertices (λ v. write_cell absent_wide (delays_from b t i v)) s (b.inputs + j) (omega (arith, p.checked.sound.room))
      ∙ ap (write_cell absent_wide) (walk_other (longest (graph_of b.vertices t) b.vertices) i (b.inputs + j) (λ z. omega arith)))

  pub row_made : RowsMade b t i (i + 1) d (put_mid (b.outputs * i) (b.outputs * i + b.outputs - b.outputs * i) d ys)
  row_made d₀ e = row_back n (entry b t) d₀ d i e ys row_is

-- the answers
module _ (m n N : ℕ) (before : List ℤ) (g : Graph) where
  pub matrix_short : length before < n * m → Fills (matrix_into m n N before g) before before (Err DestinationShort)
  unfolding matrix_into
  matrix_short h = let e = lt-leb (m * n) (length before) (omega (arith, h, mul_comm m n)) in record { answer = simp e; left = simp e }

  pub matrix_done : n * m ≤ length before → (after : List ℤ) → after ≡ matrix_cells m n N g ++ drop (n * m) before → Fills (matrix_into m n N before g) before after (Ok tt)
  unfolding matrix_into
  matrix_done h after q =
      let e = le-leb (m * n) (length before) (omega (arith, h, mul_comm m n)) in
      let k : after ≡ matrix_cells m n N g ++ drop (m * n) before = q ∙ ap (λ (x : ℕ). matrix_cells m n N g ++ drop x before) (mul_comm n m) in
      record { answer = simp e (ap accepted k); left = simp e k }
