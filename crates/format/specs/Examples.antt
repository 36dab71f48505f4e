-- Files, and what documents 01 and 02 say that reading them answers: which refusal wins, and where. All are computed in proofs/Examples.antt.
use Rattle.std.specs.Prelude.{cond, List, [], ◌∷◌, ◌++◌, ℕ, eqb, ℤ, pos, negsuc, get_or}
use Rattle.laws.specs.Lists.{tabulate}
use Rattle.graph.specs.Delay.{Delay, absent, at}
use Rattle.timing.specs.Limits.{absent_cell}
use Rattle.timing.specs.Checks.{BoardSizes, sizes}
use Rattle.format.specs.Library.{library_cells, value_of, built_in}
use Rattle.format.specs.Records.{cell_delay}
use Rattle.format.specs.Reading.{Reading, stopped, got, file_graph, read_call, table_read}
use Rattle.format.specs.LibraryFile.{library_call, library_read}

-- read into 25 cells, with as many of scratch, under a library
abbrev sevens : ℕ → List ℤ
sevens n = tabulate n (λ _. pos 7)

abbrev reads_under : List ℤ → List ℕ → Reading BoardSizes
reads_under l s = read_call l s (sevens 25) 25

abbrev reads : List ℕ → Reading BoardSizes
reads = reads_under built_in

abbrev BD : ℕ → ℕ → ℕ → List ℕ
BD m n N = 66 ∷ 68 ∷ m ∷ n ∷ N ∷ []

-- the delay by its four bytes
abbrev AR : ℕ → ℕ → ℕ → ℕ → ℕ → ℕ → List ℕ
AR u v a b c d = 65 ∷ 82 ∷ u ∷ v ∷ a ∷ b ∷ c ∷ d ∷ []

abbrev CE : ℕ → ℕ → ℕ → List ℕ
CE u v c = 67 ∷ 69 ∷ u ∷ v ∷ c ∷ []

abbrev EN : ℕ → ℕ → List ℕ
EN a b = 69 ∷ 78 ∷ a ∷ b ∷ []

-- a library's record: the code, and the ticks by their four bytes
abbrev CL : ℕ → ℕ → ℕ → ℕ → ℕ → List ℕ
CL c a b d e = 67 ∷ 76 ∷ c ∷ a ∷ b ∷ d ∷ e ∷ []

-- a library that has one code
abbrev only : ℕ → ℤ → List ℤ
only c d = tabulate library_cells (λ x. cond (eqb x c) d absent_cell)

-- document 01's example for `thin`
abbrev pub example : List ℕ
example = BD 2 1 5 ++ AR 0 3 2 0 0 0 ++ AR 1 3 1 0 0 0 ++ AR 3 2 1 0 0 0 ++ AR 3 4 1 0 0 0 ++ AR 4 2 2 0 0 0 ++ EN 5 0

unfoldable pub files : List (Reading BoardSizes × Reading BoardSizes)
files =
    (reads example, got (sizes 2 1 5))
    -- an empty file, a lone byte, an unknown mark, a misplaced one, a header that ends
    ∷ (reads [], stopped 15 0)
    ∷ (reads (66 ∷ []), stopped 15 0)
    ∷ (reads (66 ∷ 69 ∷ []), stopped 16 0)
    ∷ (reads (EN 0 0), stopped 16 0)
    ∷ (reads (66 ∷ 68 ∷ 1 ∷ 1 ∷ []), stopped 15 0)
    -- 1 before 2 and before any later record; 2
    ∷ (reads (BD 1 1 91 ++ (0 ∷ 0 ∷ [])), stopped 1 0)
    ∷ (reads (BD 1 1 90), stopped 2 0)
    -- the bytes' end where a record is due; a second BD; a body that ends
    ∷ (reads (BD 1 1 3), stopped 15 5)
    ∷ (reads (BD 1 1 3 ++ BD 1 1 3), stopped 16 5)
    ∷ (reads (BD 1 1 3 ++ (65 ∷ 82 ∷ 9 ∷ [])), stopped 15 5)
    -- 17: a vertex, a delay of one too much, the absent mark, a code
    ∷ (reads (BD 1 1 3 ++ AR 0 3 1 0 0 0), stopped 17 5)
    ∷ (reads (BD 1 1 3 ++ AR 0 1 1 202 154 59), stopped 17 5)
    ∷ (reads (BD 1 1 3 ++ AR 0 1 0 0 0 128), stopped 17 5)
    ∷ (reads (BD 1 1 3 ++ CE 0 1 5), stopped 17 5)
    -- 17 before 18; an AR and a CE on one pair is 18
    ∷ (reads (BD 1 1 3 ++ AR 0 2 1 0 0 0 ++ CE 0 1 5), stopped 17 13)
    ∷ (reads (BD 1 1 3 ++ AR 0 1 1 0 0 0 ++ CE 0 1 0), stopped 18 13)
    -- 19 before 20; 20 before 5 and 6, which are at 0
    ∷ (reads (BD 1 1 3 ++ CE 0 1 0 ++ EN 2 0 ++ (0 ∷ [])), stopped 19 10)
    ∷ (reads (BD 1 1 3 ++ CE 2 2 0 ++ EN 1 0 ++ (0 ∷ [])), stopped 20 14)
    ∷ (reads (BD 1 1 3 ++ CE 0 0 0 ++ CE 2 2 0 ++ EN 2 0), stopped 5 0)
    ∷ (reads (BD 1 1 3 ++ CE 2 2 4 ++ EN 1 0), stopped 6 0)
    -- a library of 31 or 33 cells, or with a cell of -1 or 1,000,001: 23 before 15, 16, 1, 2, 3, 17, 18, 19, 20, 5 and 6
    ∷ (reads_under (sevens 31) [], stopped 23 0)
    ∷ (reads_under (only 9 (negsuc 0)) (EN 0 0), stopped 23 0)
    ∷ (reads_under (only 31 (pos 1000001)) (BD 1 1 91), stopped 23 0)
    ∷ (reads_under (sevens 33) (BD 1 1 90), stopped 23 0)
    ∷ (read_call (sevens 31) (BD 1 1 3) (sevens 25) 8, stopped 23 0)
    ∷ (reads_under (only 9 (negsuc 0)) (BD 1 1 3 ++ CE 0 1 0), stopped 23 0)
    ∷ (reads_under (sevens 31) (BD 1 1 3 ++ CE 0 1 0 ++ CE 0 1 0), stopped 23 0)
    ∷ (reads_under (sevens 33) (BD 1 1 3 ++ EN 1 0), stopped 23 0)
    ∷ (reads_under (sevens 31) (BD 1 1 3 ++ EN 0 0 ++ (0 ∷ [])), stopped 23 0)
    ∷ (reads_under (sevens 33) (BD 1 1 3 ++ CE 0 0 0 ++ EN 1 0), stopped 23 0)
    ∷ (reads_under (sevens 31) (BD 1 1 3 ++ CE 2 2 0 ++ EN 1 0), stopped 23 0)
    -- 17 for a code that is lacking and for one above 31, before 18; one that the built-in library lacks; a CL among arcs is 16
    ∷ (reads_under (only 9 (pos 0)) (BD 1 1 3 ++ CE 0 1 0), stopped 17 5)
    ∷ (reads_under (sevens 32) (BD 1 1 3 ++ CE 0 2 31 ++ CE 0 1 32), stopped 17 10)
    ∷ (reads_under (only 9 (pos 1000000)) (BD 1 1 3 ++ CE 0 1 9 ++ EN 1 0), got (sizes 1 1 3))
    ∷ (reads (BD 1 1 3 ++ CL 0 1 0 0 0), stopped 16 5)
    ∷ []

-- ---- cells under load (ticket 2 of document 02)

-- cells before and after the records that they count, of both marks: 0→3 before 3→2 and 3→4, 3→4 before 4→1 and 4→2, 4→2 after 2→1
abbrev loaded : List ℕ
loaded = BD 1 1 5 ++ CE 0 3 0 ++ AR 2 1 7 0 0 0 ++ AR 3 2 9 0 0 0 ++ CE 3 4 1 ++ CE 4 1 4 ++ CE 4 2 1 ++ EN 6 0

unfoldable pub delays : List (Delay × Delay)
delays =
    -- INV with f = 2, 0 and 5; NAND2 with f = 1; a code that has no ticks
    (value_of (cell_delay built_in 0 2), at (pos 2))
    ∷ (value_of (cell_delay built_in 0 0), at (pos 1))
    ∷ (value_of (cell_delay built_in 0 5), at (pos 2))
    ∷ (value_of (cell_delay built_in 1 1), at (pos 3))
    ∷ (value_of (cell_delay built_in 5 1), absent)
    -- INV before an AR and a CE; NAND2 before two CE; NAND2 after an AR
    ∷ (file_graph built_in 5 loaded 0 3, at (pos 2))
    ∷ (file_graph built_in 5 loaded 3 4, at (pos 3))
    ∷ (file_graph built_in 5 loaded 4 2, at (pos 3))
    -- MUX into a vertex that drives nothing; an AR into one that drives an arc
    ∷ (file_graph built_in 5 loaded 4 1, at (pos 2))
    ∷ (file_graph built_in 5 loaded 3 2, at (pos 9))
    -- the most; a code that is lacking is neither 0 ticks nor the built-in ones
    ∷ (value_of (cell_delay (only 31 (pos 1000000)) 31 90), at (pos 19000000))
    ∷ (value_of (cell_delay (only 31 (pos 0)) 31 90), at (pos 0))
    ∷ (value_of (cell_delay (only 31 (pos 0)) 0 0), absent)
    ∷ []

-- ---- library files (ticket 3 of document 02)

-- read into 32 cells of 7
abbrev takes : List ℕ → Reading (Unit {0})
takes s = library_call s (sevens 32)

unfoldable pub libraries : List (Reading (Unit {0}) × Reading (Unit {0}))
libraries =
    -- two codes, with 3 and 1,000,000 ticks; none
    (takes (CL 0 3 0 0 0 ++ CL 31 64 66 15 0 ++ EN 2 0), got tt)
    ∷ (takes (EN 0 0), got tt)
    -- 31 and 33 cells: 23 before 15, 16, 17, 18, 19, 20 and 23 at a record
    ∷ (library_call [] (sevens 31), stopped 23 0)
    ∷ (library_call (BD 1 1 3) (sevens 33), stopped 23 0)
    ∷ (library_call (CL 32 0 0 0 0) (sevens 31), stopped 23 0)
    ∷ (library_call (CL 5 1 0 0 0 ++ CL 5 1 0 0 0) (sevens 33), stopped 23 0)
    ∷ (library_call (EN 1 0) (sevens 31), stopped 23 0)
    ∷ (library_call (EN 0 0 ++ (0 ∷ [])) (sevens 33), stopped 23 0)
    ∷ (library_call (CL 5 1 0 0 0 ++ CL 6 255 255 255 255) (sevens 31), stopped 23 0)
    -- an empty file, a lone byte; a BD, an AR, a CE and an unknown mark, before their length is looked at
    ∷ (takes [], stopped 15 0)
    ∷ (takes (67 ∷ []), stopped 15 0)
    ∷ (takes (66 ∷ 68 ∷ []), stopped 16 0)
    ∷ (takes (CL 0 3 0 0 0 ++ (65 ∷ 82 ∷ [])), stopped 16 7)
    ∷ (takes (CL 0 3 0 0 0 ++ (67 ∷ 69 ∷ [])), stopped 16 7)
    ∷ (takes (CL 0 3 0 0 0 ++ (67 ∷ 77 ∷ [])), stopped 16 7)
    -- the bytes' end where a record is due; 15 before 17, 18 and 19; 17 before 23
    ∷ (takes (CL 0 3 0 0 0), stopped 15 7)
    ∷ (takes (67 ∷ 76 ∷ 32 ∷ 0 ∷ 0 ∷ 0 ∷ []), stopped 15 0)
    ∷ (takes (CL 0 3 0 0 0 ++ (67 ∷ 76 ∷ 0 ∷ 0 ∷ 0 ∷ 0 ∷ [])), stopped 15 7)
    ∷ (takes (CL 0 3 0 0 0 ++ (69 ∷ 78 ∷ 2 ∷ [])), stopped 15 7)
    ∷ (takes (CL 32 255 255 255 255), stopped 17 0)
    -- 23: one tick too much, -1, the absent mark; before 18
    ∷ (takes (CL 0 65 66 15 0), stopped 23 0)
    ∷ (takes (CL 5 0 0 0 0 ++ CL 5 255 255 255 255), stopped 23 7)
    ∷ (takes (CL 5 0 0 0 128), stopped 23 0)
    ∷ (takes (CL 5 1 0 0 0 ++ CL 5 1 0 0 0), stopped 18 7)
    -- 19 before 20
    ∷ (takes (CL 5 1 0 0 0 ++ EN 2 0 ++ (0 ∷ [])), stopped 19 7)
    ∷ (takes (CL 5 1 0 0 0 ++ EN 1 0 ++ (0 ∷ [])), stopped 20 11)
    ∷ []

unfoldable pub cells_left : List (ℤ × ℤ)
cells_left =
    -- a code that is named, and one that is not; refused at its end, a library leaves the cells, and so does 23 a table
    (get_or (library_read (CL 5 9 0 0 0 ++ EN 1 0) (sevens 32)) 5 (pos 0), pos 9)
    ∷ (get_or (library_read (CL 5 9 0 0 0 ++ EN 1 0) (sevens 32)) 4 (pos 0), absent_cell)
    ∷ (get_or (library_read (CL 5 9 0 0 0 ++ EN 2 0) (sevens 32)) 5 (pos 0), pos 7)
    ∷ (get_or (table_read (sevens 31) example (sevens 25) 25) 0 (pos 0), pos 7)
    ∷ []
