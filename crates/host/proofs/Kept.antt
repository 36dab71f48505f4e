-- Cells that a call leaves as they were have the bytes that they had.
use mathlib.Core.Path.{◌≡◌, refl, sym, ap, ◌∙◌}
use mathlib.Core.List.{List, ◌++◌, append_assoc, append-nil}
use Prim.Native.Nat.{ℕ, zero, suc, ◌+◌, ◌-◌, ◌*◌, ◌≤◌, ◌<◌}
use native.Mathlib.Nat.{mul-suc, mul-le-mul_left}
use native.Mathlib.Omega.{arith}
use lib.IntN.{ℤ, pos}
use lib.ListN.{length, get_or, drop, length-append, length-drop, drop_of_length-le, get_or-append}
use lib.Seq.{drop-cons, append_snoc, get_or-drop, get_or-append-add, drop-drop}
use Rattle.laws.specs.Lists.{tabulate, rows}
use Rattle.laws.proofs.Lists.{length-tabulate, get_d_tabulate, tabulate_same, rows_same}
use Rattle.codec.specs.Bytes.{byte_of, pattern, unsigned_at}
use Rattle.codec.proofs.Bytes.{bytes_of_number}
use Rattle.codec.proofs.Patterns.{pattern-twos}
use Rattle.codec.proofs.Places.{AreBytes, read_below}
use Rattle.host.specs.Runs.{whole_cells, run_cell, cells_of, cell_byte, with_cells}
use Rattle.host.proofs.Filling.{filled}

-- the first w elements, one by one
elements : (w : ℕ) (l : List ℕ) → w ≤ length l → tabulate w (λ i. get_or l i 0) ++ drop w l ≡ l
unfolding tabulate
elements zero l h = refl
elements (suc w) l h =
    let f : ℕ → ℕ = λ i. get_or l i 0 in
    append_snoc (tabulate w f) (f w) (drop (suc w) l) ∙ ap (λ (r : List ℕ). tabulate w f ++ r) (sym (drop-cons l w 0 h)) ∙ elements w l (omega arith)

pub length-cells : (w : ℕ) (s : List ℕ) → length (cells_of w s) ≡ whole_cells w s
unfolding cells_of
length-cells w s = length-tabulate (run_cell w s) (whole_cells w s)

pub cell_of : (w : ℕ) (s : List ℕ) (x : ℕ) → x < whole_cells w s → get_or (cells_of w s) x (pos 0) ≡ run_cell w s x
unfolding cells_of
cell_of w s x h = get_d_tabulate (run_cell w s) (whole_cells w s) x (pos 0) h

module _ (w : ℕ) (s : List ℕ) (bytes : AreBytes s) (a : List ℤ) where
  -- the cells a, and then the run's own
  abbrev whole : List ℤ
  whole = a ++ drop (length a) (cells_of w s)

  own_cell : (d : ℕ) → length a + d < whole_cells w s → get_or whole (length a + d) (pos 0) ≡ run_cell w s (length a + d)
  own_cell d h =
      get_or-append-add a (drop (length a) (cells_of w s)) d (pos 0)
      ∙ get_or-drop (length a) (cells_of w s) d (pos 0) ∙ cell_of w s (length a + d) h

  -- a cell's own bytes
  own_byte : (x i : ℕ) → i < w → byte_of (pattern w (run_cell w s x)) i ≡ get_or s (w * x + i) 0
  own_byte x i h =
      ap (λ (y : ℕ). byte_of y i) (pattern-twos w (unsigned_at w s (w * x)) (read_below s (w * x) w bytes))
      ∙ bytes_of_number w (λ j. get_or s (w * x + j) 0) (λ j k. (bytes (w * x + j)).fits) i h

  -- one cell of its own more
  own_more : (x : ℕ) → w * x + w ≤ length s → get_or whole x (pos 0) ≡ run_cell w s x → filled w whole s (suc x) ≡ filled w whole s x
  unfolding rows
  own_more x h e =
      let f = cell_byte w whole in
      let row : tabulate w (f x) ≡ tabulate w (λ i. get_or (drop (w * x) s) i 0) = tabulate_same w _ _ (λ i l. ap (λ (z : ℤ). byte_of (pattern w z) i) e ∙ own_byte x i l ∙ sym (get_or-drop (w * x) s i 0)) in
      append_assoc (rows w x f) (tabulate w (f x)) (drop (w * suc x) s)
      ∙ (λ i. rows w x f ++ (row i ++ (ap (λ (k : ℕ). drop k s) (mul-suc w x) ∙ sym (drop-drop w (w * x) s)) i))
      ∙ ap (λ (r : List ℕ). rows w x f ++ r) (elements w (drop (w * x) s) (omega (arith, length-drop (w * x) s)))

  module _ (inside : w * whole_cells w s ≤ length s) where
    own_rest : (d : ℕ) → length a + d ≤ whole_cells w s → filled w whole s (length a + d) ≡ with_cells w a s
    unfolding with_cells
    own_rest zero h =
        let e : length a + 0 ≡ length a = omega arith in
        ap (filled w whole s) e
        ∙ ap (λ (r : List ℕ). r ++ drop (w * length a) s) (rows_same w (length a) _ _ (λ x i l k. ap (λ (z : ℤ). byte_of (pattern w z) i) (get_or-append a (drop (length a) (cells_of w s)) (pos 0) x l)))
    own_rest (suc d) h =
        let e : length a + suc d ≡ suc (length a + d) = omega arith in
        let j = length a + d in
        let room : w * j + w ≤ length s = omega (arith, mul-suc w j, mul-le-mul_left w (let k : suc j ≤ whole_cells w s = omega arith in k)) in
        ap (filled w whole s) e ∙ own_more j room (own_cell d (omega arith)) ∙ own_rest d (omega arith)

    -- putting all the cells is putting those that are new
    pub rest_kept : length a ≤ whole_cells w s → with_cells w whole s ≡ with_cells w a s
    unfolding with_cells
    rest_kept h =
        let e : length whole ≡ length a + (whole_cells w s - length a) = omega (arith, length-append a (drop (length a) (cells_of w s)), length-drop (length a) (cells_of w s), length-cells w s) in
        ap (filled w whole s) e ∙ own_rest (whole_cells w s - length a) (omega arith)

-- k new cells before the rest of t, which has no more than k: the same bytes as before the rest of the run's own
pub new_cells : (w : ℕ) (s : List ℕ) → AreBytes s → w * whole_cells w s ≤ length s → (a t : List ℤ) (k : ℕ) → length a ≡ k → length t ≤ k → k ≤ whole_cells w s
    → with_cells w (a ++ drop k t) s ≡ with_cells w (a ++ drop k (cells_of w s)) s
new_cells w s bytes inside a t k e few h =
    ap (λ (r : List ℤ). with_cells w (a ++ r) s) (drop_of_length-le t few)
    ∙ ap (λ (r : List ℤ). with_cells w r s) (append-nil a)
    ∙ sym (rest_kept w s bytes a inside (omega arith))
    ∙ ap (λ (i : ℕ). with_cells w (a ++ drop i (cells_of w s)) s) e
