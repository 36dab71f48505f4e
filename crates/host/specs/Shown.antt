-- How many cells of a table's or a matrix's run are handed to the calls below: those of r rows of c cells, or fewer where the run has fewer. Sizes that check 1 refuses show none.
use Rattle.std.specs.Prelude.{cond, ◌&&◌, ℕ, ◌*◌, min, leb}
use Rattle.timing.specs.Limits.{max_vertices}

unfoldable pub shown : ℕ → ℕ → ℕ → ℕ
shown r c cells = cond (leb r max_vertices && leb c max_vertices) (min cells (r * c)) 0

-- the most pairs of an input and an output: 45 of each
abbrev pub most_pairs : ℕ
most_pairs = 2025

-- of a matrix, no more than a board can have
abbrev pub pairs_shown : ℕ → ℕ → ℕ → ℕ
pairs_shown m n cells = min most_pairs (shown m n cells)
