-- The rows that `bypass` and `shrink_row` leave, and what they are in the table.
use mathlib.Core.Path.{◌≡◌, refl, sym, ap, ◌∙◌}
use mathlib.Core.Bool.{false}
use mathlib.Core.List.{List}
use Prim.Native.Nat.{ℕ, ◌<◌}
use native.Mathlib.Decide.{ℕ_discrete}
use native.Mathlib.Omega.{arith}
use lib.IntN.{ℤ, pos}
use lib.ListN.{length, get_or, set, length-set}
use lib.Seq.{get_or-set_same, get_or-set_other}
use Rattle.laws.specs.Lists.{tabulate}
use Rattle.laws.proofs.Booleans.{eqb_same, eqb_other}
use Rattle.laws.proofs.Lists.{length-tabulate, get_d_tabulate, tabulate_same, is_tabulate}
use Rattle.graph.specs.Delay.{present}
use Rattle.graph.proofs.Delay.{⋓-absent}
use Rattle.timing.specs.Limits.{absent_cell}
use Rattle.timing.proofs.Table.{written_read}
use Rattle.paths.specs.Cells.{cell_at}
use Rattle.paths.proofs.ReadCells.{absent_cell_lem}
use Rattle.plans.specs.ShrunkRow.{joined_cell, bypassed_cell, shrunk_cell}
use Rattle.plans.proofs.SumCells.{mark_of}

module _ (row via : List ℤ) (k : ℕ) where
  -- where no arc leads to k, the row is as it should be
  pub bypassed_before : present (cell_at row k) ≡ false → row ≡ tabulate (length row) (bypassed_cell row via k)
  bypassed_before e = is_tabulate (pos 0) row (length row) (bypassed_cell row via k) refl (λ t _. go t (ℕ_discrete t k))
    where
      go : (t : ℕ) → Dec (t ≡ k) → get_or row t (pos 0) ≡ bypassed_cell row via k t
      go t (yes q) = rw q (simp (eqb_same k) (mark_of (get_or row k (pos 0)) e))
      go t (no q) = sym (simp (eqb_other t k q, absent_cell_lem (get_or row k (pos 0)) e, ⋓-absent (cell_at row t)) (written_read absent_cell (get_or row t (pos 0))))

  -- joined, and k's column cleared
  pub bypassed_after : (r : List ℤ) → r ≡ tabulate (length row) (joined_cell row via (cell_at row k)) → k < length row
      → set r k absent_cell ≡ tabulate (length row) (bypassed_cell row via k)
  bypassed_after r e inside = is_tabulate (pos 0) (set r k absent_cell) (length row) (bypassed_cell row via k) (length-set r k absent_cell ∙ size) (λ t l. go t l (ℕ_discrete t k))
    where
      size : length r ≡ length row
      size = ap length e ∙ length-tabulate (joined_cell row via (cell_at row k)) (length row)

      go : (t : ℕ) → t < length row → Dec (t ≡ k) → get_or (set r k absent_cell) t (pos 0) ≡ bypassed_cell row via k t
      go t l (yes q) = rw q (simp (eqb_same k) (get_or-set_same r k absent_cell (pos 0) (omega (arith, size))))
      go t l (no q) =
          get_or-set_other r k t absent_cell (pos 0) q ∙ ap (λ (x : List ℤ). get_or x t (pos 0)) e ∙ get_d_tabulate (joined_cell row via (cell_at row k)) (length row) t (pos 0) l
          ∙ sym (simp (eqb_other t k q))

  module _ (u : ℕ) where
    pub other_row : (u ≡ k → ⊥) → tabulate (length row) (bypassed_cell row via k) ≡ tabulate (length row) (shrunk_cell row via k u)
    other_row ne = tabulate_same (length row) _ _ (λ t _. simp (eqb_other u k ne))
