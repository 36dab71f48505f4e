-- The rows that `redirect` and `merge_row` leave.
use mathlib.Core.Path.{◌≡◌, sym, ap, ◌∙◌}
use mathlib.Core.Bool.{cond}
use mathlib.Core.List.{List}
use Prim.Native.Nat.{ℕ, ◌<◌}
use native.Mathlib.Decide.{ℕ_discrete}
use native.Mathlib.Omega.{arith}
use lib.Dec.{eqb}
use lib.IntN.{ℤ, pos, neg_ℤ}
use lib.ListN.{length, get_or, set, length-set}
use lib.Seq.{get_or-set_same, get_or-set_other}
use Rattle.laws.specs.Lists.{tabulate}
use Rattle.laws.proofs.Booleans.{eqb_same, eqb_other}
use Rattle.laws.proofs.Lists.{length-tabulate, get_d_tabulate, tabulate_same, is_tabulate}
use Rattle.graph.specs.Delay.{Delay, at, ◌⋓◌, ◌⊕◌}
use Rattle.graph.proofs.Delay.{⊕-comm}
use Rattle.timing.specs.Limits.{absent_cell}
use Rattle.timing.specs.Table.{read_cell, write_cell}
use Rattle.timing.proofs.Table.{written_read}
use Rattle.paths.specs.Cells.{cell_at}
use Rattle.plans.specs.ShrunkRow.{joined_cell}
use Rattle.plans.specs.MergedRow.{redirected_cell, merged_cell}

-- x is stored at o, then v is cleared
pub redirected_after : (row : List ℤ) (into : Delay) (v o : ℕ) (d x : ℤ) → v < length row → o < length row → read_cell absent_cell x ≡ into ⊕ at d
    → set (set row o x) v absent_cell ≡ tabulate (length row) (redirected_cell row into v o d)
redirected_after row into v o d x lv lo e =
    is_tabulate (pos 0) (set (set row o x) v absent_cell) (length row) (redirected_cell row into v o d) (length-set (set row o x) v absent_cell ∙ length-set row o x) (λ t l. go t (ℕ_discrete t v) (ℕ_discrete t o))
  where
    go : (t : ℕ) → Dec (t ≡ v) → Dec (t ≡ o) → get_or (set (set row o x) v absent_cell) t (pos 0) ≡ redirected_cell row into v o d t
    go t (yes q) _ = rw q (simp (eqb_same v) (get_or-set_same (set row o x) v absent_cell (pos 0) (omega (arith, length-set row o x))))
    go t (no q) (yes r) =
        get_or-set_other (set row o x) v t absent_cell (pos 0) q
        ∙ rw r (get_or-set_same row o x (pos 0) lo)
        ∙ sym (written_read absent_cell x) ∙ ap (write_cell absent_cell) e
        ∙ sym (simp (eqb_other t v q, ap (λ (y : ℕ). eqb y o) r ∙ eqb_same o))
    go t (no q) (no r) = get_or-set_other (set row o x) v t absent_cell (pos 0) q ∙ get_or-set_other row o t x (pos 0) r ∙ sym (simp (eqb_other t v q, eqb_other t o r))

module _ (row via : List ℤ) (v o : ℕ) (d : ℤ) (u : ℕ) where
  -- the cell at another column than v and o
  abbrev kept : ℕ → ℤ
  kept t = write_cell absent_cell (cond (eqb u o) (cell_at row t ⋓ (cell_at via t ⊕ at (neg_ℤ d))) (cell_at row t))

  -- a row r that is right but for the columns of v and o
  redirected : (u ≡ v → ⊥) → (r : List ℤ) → length r ≡ length row → ((t : ℕ) → t < length row → get_or r t (pos 0) ≡ kept t)
      → tabulate (length r) (redirected_cell r (cell_at row v) v o d) ≡ tabulate (length row) (merged_cell row via v o d u)
  redirected ne r size same = rw size (tabulate_same (length row) _ _ (λ t l. go t l (ℕ_discrete t v) (ℕ_discrete t o)))
    where
      go : (t : ℕ) → t < length row → Dec (t ≡ v) → Dec (t ≡ o) → redirected_cell r (cell_at row v) v o d t ≡ merged_cell row via v o d u t
      go t l (yes a) _ = rw a (simp (eqb_same v, eqb_other u v ne))
      go t l (no a) (yes b) = simp (eqb_other u v ne, eqb_other t v a, ap (λ (y : ℕ). eqb y o) b ∙ eqb_same o)
      go t l (no a) (no b) = simp (eqb_other u v ne, eqb_other t v a, eqb_other t o b) (same t l)

  -- o's row, first joined with v's
  pub output_row : (u ≡ v → ⊥) → u ≡ o → (r : List ℤ) → r ≡ tabulate (length row) (joined_cell row via (at (neg_ℤ d)))
      → tabulate (length r) (redirected_cell r (cell_at row v) v o d) ≡ tabulate (length row) (merged_cell row via v o d u)
  output_row ne e r q = redirected ne r (ap length q ∙ length-tabulate (joined_cell row via (at (neg_ℤ d))) (length row)) joined
    where
      joined : (t : ℕ) → t < length row → get_or r t (pos 0) ≡ kept t
      joined t l =
          ap (λ (x : List ℤ). get_or x t (pos 0)) q ∙ get_d_tabulate (joined_cell row via (at (neg_ℤ d))) (length row) t (pos 0) l
          ∙ ap (λ (x : Delay). write_cell absent_cell (cell_at row t ⋓ x)) (⊕-comm (at (neg_ℤ d)) (cell_at via t))
          ∙ sym (simp (ap (λ (y : ℕ). eqb y o) e ∙ eqb_same o))

  -- the row of another, as it was
  pub other_row : (u ≡ v → ⊥) → (u ≡ o → ⊥) → (r : List ℤ) → r ≡ row
      → tabulate (length r) (redirected_cell r (cell_at row v) v o d) ≡ tabulate (length row) (merged_cell row via v o d u)
  other_row ne other r q =
      redirected ne r (ap length q) (λ t l. ap (λ (x : List ℤ). get_or x t (pos 0)) q ∙ sym (simp (eqb_other u o other) (written_read absent_cell (get_or row t (pos 0)))))
