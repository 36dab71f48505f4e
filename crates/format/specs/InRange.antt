-- No delay that a read gives a cell needs a range check (ticket 3 of document 02). Proved in proofs/InRange.antt.
use Rattle.std.specs.Prelude.{◌≡◌, ◌&&◌, List, ℕ, ◌≤◌, T, ℤ, pos}
use Rattle.std.specs.Int.Signed.{le_z}
use Rattle.timing.specs.Limits.{max_vertices, delay_limit, fits}
use Rattle.timing.specs.Refusal.{accepted}
use Rattle.timing.specs.Checks.{passes, BoardSizes}
use Rattle.format.specs.Library.{InForce}
use Rattle.format.specs.Records.{cell_delay}
use Rattle.format.specs.LibraryFile.{library_call, library_read}
use Rattle.format.specs.Reading.{got, board_records, file_loads, file_graph, read_call, table_read}

-- the most that a cell takes: 1,000,000 × 95 / 5 ticks
abbrev pub most_delay : ℕ
most_delay = 19000000

-- of a file of N vertices that was read under library l: at most N records leave a vertex, no cell takes more than the most, every arc's delay is in range
pub record InRange (l : List ℤ) (N : ℕ) (s : List ℕ) : Type 0 where
  pub few : (w : ℕ) → file_loads N s w ≤ N
  pub cells : (c w : ℕ) (d : ℤ) → cell_delay l c (file_loads N s w) ≡ accepted d → T (le_z (pos 0) d && le_z d (pos most_delay))
  pub arcs : (u v : ℕ) → T (fits delay_limit (file_graph l N s u v))

abbrev pub NoRangeCheck : Type 0
NoRangeCheck = (l : List ℤ) (N : ℕ) (s : List ℕ) → InForce l → N ≤ max_vertices → board_records l N s ≡ got tt → InRange l N s

-- so that the table of an accepted read passes its checks
abbrev pub ReadPasses : Type 0
ReadPasses = (l : List ℤ) (s : List ℕ) (t : List ℤ) (k : ℕ) (b : BoardSizes) → read_call l s t k ≡ got b
    → T (passes b.inputs b.outputs b.vertices (table_read l s t k))

-- a library that was read passes
abbrev pub LibraryPasses : Type 0
LibraryPasses = (s : List ℕ) (l : List ℤ) → library_call s l ≡ got tt → InForce (library_read s l)
