-- A cell library in force (ticket 3 of document 02): 32 lent cells, a code's ticks each, absent where it lacks the code.
use Rattle.std.specs.Prelude.{Bool, true, ◌&&◌, List, [], ◌∷◌, ℕ, T, ltb, eqb, ℤ, pos, length, get_or}
use Rattle.std.specs.Int.Signed.{le_z}
use Rattle.laws.specs.Bounded.{every}
use Rattle.laws.specs.Lists.{tabulate}
use Rattle.graph.specs.Delay.{Delay, absent, at}
use Rattle.timing.specs.declared.Refusal.TheVariants.{WrongField}
use Rattle.timing.specs.Limits.{absent_cell}
use Rattle.timing.specs.Refusal.{number, Verdict, refused, accepted, require}
use Rattle.timing.specs.Table.{read_cell, write_cell}

-- codes 0 to 31
abbrev pub library_cells : ℕ
library_cells = 32

-- ticks lie from 0 to 1,000,000
abbrev pub ticks_limit : ℕ
ticks_limit = 1000000

abbrev pub ticks_fit : ℤ → Bool
ticks_fit d = le_z (pos 0) d && le_z d (pos ticks_limit)

abbrev pub absent_or_fits : Delay → Bool
absent_or_fits absent = true
absent_or_fits (at d) = ticks_fit d

-- 32 cells, each absent or ticks
unfoldable pub library_fits : List ℤ → Bool
library_fits l = eqb (length l) library_cells && every library_cells (λ c. absent_or_fits (read_cell absent_cell (get_or l c (pos 0))))

-- one that may be lent to the read of a board
abbrev pub InForce : List ℤ → Type 0
InForce l = T (library_fits l)

-- 17 for a code that is lacking
abbrev pub found_in : Delay → Verdict ℤ
found_in absent = refused (number WrongField)
found_in (at d) = accepted d

unfoldable pub ticks_in : List ℤ → ℕ → Verdict ℤ
ticks_in l c = require (ltb c (length l)) WrongField (found_in (read_cell absent_cell (get_or l c (pos 0))))

-- ---- the built-in one

-- the ticks of each cell code (003)
unfoldable pub cell_ticks : List ℕ
cell_ticks =
    -- 0 INV
    1
    -- 1 NAND2
    ∷ 2
    -- 2 AND
    ∷ 2
    -- 3 OR
    ∷ 2
    -- 4 MUX
    ∷ 2
    ∷ []

-- 17 for a code that has none
unfoldable pub ticks_of : ℕ → Verdict ℤ
ticks_of c = require (ltb c (length cell_ticks)) WrongField (accepted (pos (get_or cell_ticks c 0)))

abbrev pub value_of : Verdict ℤ → Delay
value_of (refused r) = absent
value_of (accepted d) = at d

-- so many cells, each with its code's ticks
abbrev pub built_in_cells : ℕ → List ℤ
built_in_cells n = tabulate n (λ c. write_cell absent_cell (value_of (ticks_of c)))

abbrev pub built_in : List ℤ
built_in = built_in_cells library_cells
