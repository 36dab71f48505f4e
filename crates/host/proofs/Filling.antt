-- Cells put into a run of bytes, one after another.
use mathlib.Core.Path.{◌≡◌, ap, ◌∙◌}
use mathlib.Core.List.{List, ◌++◌}
use Prim.Native.Nat.{ℕ, ◌+◌, ◌-◌, ◌*◌, ◌≤◌}
use native.Mathlib.Omega.{arith}
use lib.IntN.{ℤ, pos}
use lib.ListN.{length, get_or, take, drop, length-take, length-drop}
use borrow.Rule.Slice.PartMut.{put_mid}
use Rattle.laws.specs.Lists.{tabulate, rows}
use Rattle.laws.proofs.Filling.{row_lent, row_back}
use Rattle.codec.specs.Bytes.{byte_of, pattern}
use Rattle.host.specs.Runs.{cell_byte, with_cells}

module _ (w : ℕ) (cells : List ℤ) (s : List ℕ) where
  -- the run when its first x cells have been put
  abbrev pub filled : ℕ → List ℕ
  filled x = rows w x (cell_byte w cells) ++ drop (w * x) s

  pub fill_start : s ≡ filled 0
  unfolding rows
  fill_start = let e : 0 ≡ w * 0 = omega arith in ap (λ (k : ℕ). drop k s) e

  module _ (x : ℕ) (before : List ℕ) (h : w * x + w ≤ length s) (e : before ≡ filled x) where
    -- the bytes that are lent for cell x
    abbrev cell_bytes : List ℕ
    cell_bytes = take (w * x + w - w * x) (drop (w * x) before)

    pub cell_room : length cell_bytes ≡ w
    cell_room = ap length (row_lent w (cell_byte w cells) s before x e) ∙ simp (length-take, length-drop) (omega arith)

    -- one cell more
    pub fill_more : (part : List ℕ) (z : ℤ) → z ≡ get_or cells x (pos 0) → part ≡ tabulate (length cell_bytes) (byte_of (pattern (length cell_bytes) z)) → put_mid (w * x) (w * x + w - w * x) before part ≡ filled (x + 1)
    fill_more part z q r = row_back w (cell_byte w cells) s before x e part (r ∙ (λ i. tabulate (cell_room i) (byte_of (pattern (cell_room i) (q i)))))

  pub fill_end : (x : ℕ) → x ≡ length cells → filled x ≡ with_cells w cells s
  unfolding with_cells
  fill_end x e = ap filled e
