-- Each file of the lists is read as documents 01 and 02 say, and each delay and cell is as they say, by computation.
use mathlib.Core.Path.{◌≡◌, refl}
use mathlib.Core.List.{map}
use Prim.Native.Nat.{ℕ}
use lib.IntN.{ℤ}
use Rattle.laws.specs.Bounded.{every}
use Rattle.laws.specs.Lists.{tabulate}
use Rattle.graph.specs.Graph.{longest}
use Rattle.timing.specs.Table.{read_cell}
use Rattle.timing.specs.Checks.{sizes_fit, no_arc_into_input, no_cycle, BoardSizes}
use Rattle.codec.specs.Bytes.{number_of, twos}
use Rattle.graph.specs.Delay.{Delay}
use Rattle.format.specs.Library.{library_fits, ticks_in, cell_ticks, ticks_of}
use Rattle.format.specs.Records.{mark_at, cell_delay, record_at}
use Rattle.format.specs.Reading.{Reading, header, opened, records_from, worked_from, board_records, file_loads, file_graph, arcs_read, read_call, table_read}
use Rattle.format.specs.LibraryFile.{entry_at, library_records, file_ticks, file_library, library_call}
use Rattle.format.specs.Examples.{files, delays, libraries, cells_left}

-- to unfold `computed` is to unfold all that its line names
computed : ℕ
unfolding every tabulate longest sizes_fit no_arc_into_input no_cycle number_of twos read_cell library_fits ticks_in mark_at cell_ticks ticks_of cell_delay record_at header opened records_from worked_from board_records file_loads file_graph arcs_read read_call table_read entry_at library_records file_ticks file_library library_call
computed = 0

pub files_read : map (λ (q : Reading BoardSizes × Reading BoardSizes). q.0) files ≡ map (λ (q : Reading BoardSizes × Reading BoardSizes). q.1) files
unfolding computed files
files_read = refl

pub delays_read : map (λ (q : Delay × Delay). q.0) delays ≡ map (λ (q : Delay × Delay). q.1) delays
unfolding computed delays
delays_read = refl

pub libraries_read : map (λ (q : Reading (Unit {0}) × Reading (Unit {0})). q.0) libraries ≡ map (λ (q : Reading (Unit {0}) × Reading (Unit {0})). q.1) libraries
unfolding computed libraries
libraries_read = refl

pub cells_left_lem : map (λ (q : ℤ × ℤ). q.0) cells_left ≡ map (λ (q : ℤ × ℤ). q.1) cells_left
unfolding computed cells_left
cells_left_lem = refl
