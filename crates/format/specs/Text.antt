-- The text that `thin` writes, from the bytes that it reads.
use Rattle.std.specs.Prelude.{List, [], ◌∷◌, ◌++◌, ℕ, zero, suc, ◌+◌, ◌*◌, ◌/◌, ◌%◌, ◌^◌, ltb, ℤ, pos, negsuc}
use Rattle.laws.specs.Bounded.{first}
use Rattle.laws.specs.Lists.{tabulate}
use Rattle.timing.specs.Limits.{max_vertices, absent_cell, scratch_cells}
use Rattle.timing.specs.Refusal.{Verdict, refused, accepted}
use Rattle.timing.specs.Table.{graph_of}
use Rattle.reduction.specs.Outcome.{Reduced}
use Rattle.reduction.specs.Run.{run_call}
use Rattle.timing.specs.Checks.{BoardSizes}
use Rattle.format.specs.Library.{built_in}
use Rattle.format.specs.Arcs.{Arc, arcs_of}
use Rattle.format.specs.Reading.{Reading, stopped, got, read_call, table_read}

-- ---- numbers

-- the last k decimal digits of n
unfoldable pub digits : ℕ → ℕ → List ℕ
digits zero n = []
digits (suc k) n = (48 + n / 10 ^ k % 10) ∷ digits k n

-- how many digits a number below 10,000,000,000 has
unfoldable pub digits_of : ℕ → ℕ
digits_of n = suc (first 9 (λ k. ltb n (10 ^ suc k)))

abbrev pub decimal : ℕ → List ℕ
decimal n = digits (digits_of n) n

abbrev pub signed_decimal : ℤ → List ℕ
signed_decimal (pos n) = decimal n
signed_decimal (negsuc n) = 45 ∷ decimal (suc n)

-- ---- lines: words with a space between two, and a newline

unfoldable pub words : List (List ℕ) → List ℕ
words [] = 10 ∷ []
words (w ∷ ws) = 32 ∷ w ++ words ws

abbrev pub line : List ℕ → List (List ℕ) → List ℕ
line w ws = w ++ words ws

-- board, arc, accepted, arcs, refused, at
abbrev board_word : List ℕ
board_word = 98 ∷ 111 ∷ 97 ∷ 114 ∷ 100 ∷ []

abbrev arc_word : List ℕ
arc_word = 97 ∷ 114 ∷ 99 ∷ []

abbrev accepted_word : List ℕ
accepted_word = 97 ∷ 99 ∷ 99 ∷ 101 ∷ 112 ∷ 116 ∷ 101 ∷ 100 ∷ []

abbrev arcs_word : List ℕ
arcs_word = 97 ∷ 114 ∷ 99 ∷ 115 ∷ []

abbrev refused_word : List ℕ
refused_word = 114 ∷ 101 ∷ 102 ∷ 117 ∷ 115 ∷ 101 ∷ 100 ∷ []

abbrev at_word : List ℕ
at_word = 97 ∷ 116 ∷ []

abbrev pub board_line : BoardSizes → List ℕ
board_line b = line board_word (decimal b.inputs ∷ decimal b.outputs ∷ decimal b.vertices ∷ [])

abbrev pub arc_line : Arc → List ℕ
arc_line a = line arc_word (decimal a.from ∷ decimal a.to ∷ signed_decimal a.delay ∷ [])

abbrev pub counts_line : ℕ → ℕ → List ℕ
counts_line steps arcs = line accepted_word (decimal steps ∷ arcs_word ∷ decimal arcs ∷ [])

abbrev pub refused_line : ℕ → ℕ → List ℕ
refused_line r p = line refused_word (decimal r ∷ at_word ∷ decimal p ∷ [])

-- ---- the program

unfoldable pub arc_lines : List Arc → List ℕ
arc_lines [] = []
arc_lines (a ∷ as') = arc_line a ++ arc_lines as'

-- size, arcs rising, counts
abbrev pub reduced_text : BoardSizes → Reduced → List ℕ
reduced_text b r = board_line b ++ arc_lines (arcs_of b.vertices (graph_of b.vertices r.table)) ++ counts_line r.steps r.arcs_left

abbrev pub run_text : BoardSizes → Verdict Reduced → List ℕ
run_text b (refused r) = refused_line r 0
run_text b (accepted r) = reduced_text b r

-- the most cells that a board has, and a scratch needs
abbrev pub most_cells : ℕ
most_cells = max_vertices * max_vertices

abbrev pub most_scratch : ℕ
most_scratch = scratch_cells max_vertices

abbrev pub text_of : List ℤ → Reading BoardSizes → List ℕ
text_of t (stopped r p) = refused_line r p
text_of t (got b) = run_text b (run_call b.inputs b.outputs b.vertices most_scratch t)

-- a table of the most cells, all absent
abbrev pub blank : List ℤ
blank = tabulate most_cells (λ _. absent_cell)

-- the file is read under the built-in library
unfoldable pub thin_text : List ℕ → List ℕ
thin_text s = text_of (table_read built_in s blank most_scratch) (read_call built_in s blank most_scratch)
