-- Lent runs of bytes as cells of w bytes each, two's complement, low byte first. Bytes after the last whole cell don't count.
use Rattle.std.specs.Prelude.{List, ◌++◌, ℕ, ◌*◌, ◌/◌, ℤ, pos, length, get_or, drop}
use Rattle.laws.specs.Lists.{tabulate, rows}
use Rattle.codec.specs.Bytes.{byte_of, pattern, signed_at}

abbrev pub whole_cells : ℕ → List ℕ → ℕ
whole_cells w s = length s / w

-- cell x stands in the w bytes from w × x on
abbrev pub run_cell : ℕ → List ℕ → ℕ → ℤ
run_cell w s x = signed_at w s (w * x)

-- the whole cells of a run
unfoldable pub cells_of : ℕ → List ℕ → List ℤ
cells_of w s = tabulate (whole_cells w s) (run_cell w s)

-- byte i of cell x
abbrev pub cell_byte : ℕ → List ℤ → ℕ → ℕ → ℕ
cell_byte w cells x i = byte_of (pattern w (get_or cells x (pos 0))) i

-- the run when its first cells are these: w bytes for each; the bytes after them stay
unfoldable pub with_cells : ℕ → List ℤ → List ℕ → List ℕ
with_cells w cells s = rows w (length cells) (cell_byte w cells) ++ drop (w * length cells) s
