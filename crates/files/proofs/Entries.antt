-- A library file: where its records end, and the loop that places their ticks.
use mathlib.Core.Path.{◌≡◌, sym, ap, ◌∙◌}
use mathlib.Core.Bool.{cond}
use mathlib.Core.List.{List}
use Prim.Native.Nat.{ℕ, ◌+◌, ◌≤◌, ◌<◌}
use native.Mathlib.Decide.{ℕ_discrete}
use native.Mathlib.Omega.{arith}
use borrow.Author.Tests.{lt-leb, eq-eqb, ne_eqb}
use lib.Dec.{eqb}
use lib.IntN.{ℤ, pos}
use lib.ListN.{length, get_or, set, length-set}
use lib.Seq.{get_or-set_same, get_or-set_other}
use Rattle.laws.specs.Lists.{tabulate}
use Rattle.laws.proofs.Lists.{length-tabulate, get_d_tabulate, is_tabulate}
use Rattle.graph.specs.Delay.{Delay, at}
use Rattle.timing.specs.declared.Refusal.TheVariants.{FileEnds}
use Rattle.timing.specs.Limits.{absent_cell}
use Rattle.timing.specs.Refusal.{number, refused, accepted}
use Rattle.timing.specs.Table.{write_cell}
use Rattle.format.specs.declared.Entry.TheVariants as E
use Rattle.format.specs.Library.{library_cells}
use Rattle.format.specs.LibraryFile.{entry_at, entry_shape, with_entry, no_ticks, file_ticks, file_library}
use Rattle.format.proofs.AcceptedRecords.{legal_entry}
use Rattle.files.proofs.Leading.{Leading, leading_start, leading_turn, leading_end}

-- 15 where no mark fits any more
pub entry_short : (s : List ℕ) (p : ℕ) → length s < p + 2 → entry_at s p ≡ refused (number FileEnds)
unfolding entry_at
entry_short s p h = simp (lt-leb (p + 2) (length s) h)

abbrev cells : (ℕ → Delay) → List ℤ
cells f = tabulate library_cells (λ c. write_cell absent_cell (f c))

-- a stored cell is the code's
stored : (f : ℕ → Delay) (c : ℕ) (d : ℤ) → c < library_cells → set (cells f) c d ≡ cells (with_entry (E.Ticks c d) f)
stored f c d l = is_tabulate (pos 0) (set (cells f) c d) library_cells _ (length-set (cells f) c d ∙ size) (λ x k. go x k (ℕ_discrete x c))
  where
    size : length (cells f) ≡ library_cells
    size = length-tabulate (λ c. write_cell absent_cell (f c)) library_cells

    go : (x : ℕ) → x < library_cells → Dec (x ≡ c) → get_or (set (cells f) c d) x (pos 0) ≡ write_cell absent_cell (cond (eqb x c) (at d) (f x))
    go x k (yes e) = ap (λ (y : ℕ). get_or (set (cells f) c d) y (pos 0)) e ∙ get_or-set_same (cells f) c d (pos 0) (omega (arith, size, l)) ∙ sym (simp (eq-eqb x c e))
    go x k (no n) = get_or-set_other (cells f) c x d (pos 0) n ∙ get_d_tabulate (λ c. write_cell absent_cell (f c)) library_cells x (pos 0) k ∙ sym (simp (ne_eqb x c n))

module _ (s : List ℕ) where
  -- the cells hold some codes' ticks, from which those that are left lead to the file's
  pub record Placing (l : List ℤ) (p : ℕ) : Type 0 where
    pub ticks : ℕ → Delay
    pub cells_are : l ≡ tabulate library_cells (λ c. write_cell absent_cell (ticks c))
    pub inside : p ≤ length s
    pub left : Leading entry_shape with_entry (length s) (entry_at s) (file_ticks s) p ticks

  pub placing_start : (l : List ℤ) → l ≡ tabulate library_cells (λ _. absent_cell) → Placing l 0
  unfolding file_ticks
  placing_start l e = record { ticks = no_ticks; cells_are = e; inside = omega arith; left = leading_start entry_shape with_entry (length s) (entry_at s) 0 no_ticks }

  module _ (l : List ℤ) (p : ℕ) (w : Placing l p) where
    pub placing_length : length l ≡ library_cells
    placing_length = ap length w.cells_are ∙ length-tabulate (λ c. write_cell absent_cell (w.ticks c)) library_cells

    pub placing_turn : (c : ℕ) (d : ℤ) → entry_at s p ≡ accepted (E.Ticks c d) → Placing (set l c d) (p + 7)
    placing_turn c d e =
        let k = legal_entry s p (E.Ticks c d) e in
        record {
          ticks = with_entry (E.Ticks c d) w.ticks;
          cells_are = ap (λ (x : List ℤ). set x c d) w.cells_are ∙ stored w.ticks c d k.1;
          inside = k.0;
          left = leading_turn entry_shape with_entry (length s) (entry_at s) (file_ticks s) p w.ticks w.left (p + 7) (with_entry (E.Ticks c d) w.ticks) (omega arith) k.0 (λ onward. simp e);
        }

    placed : w.ticks ≡ file_ticks s → l ≡ file_library s
    unfolding file_library
    placed e = w.cells_are ∙ ap (λ (f : ℕ → Delay). tabulate library_cells (λ c. write_cell absent_cell (f c))) e

    pub placing_end : (n : ℕ) → entry_at s p ≡ accepted (E.End n) → l ≡ file_library s
    placing_end n e = placed (leading_end entry_shape with_entry (length s) (entry_at s) (file_ticks s) p w.ticks w.left (λ onward. simp e))

    pub placing_stop : (r : ℕ) → entry_at s p ≡ refused r → l ≡ file_library s
    placing_stop r e = placed (leading_end entry_shape with_entry (length s) (entry_at s) (file_ticks s) p w.ticks w.left (λ onward. simp e))
