use Rattle.std.proofs.Common.{length, ◌-◌}
use Rattle.format.specs.LibraryFile.{entry_at, entry_shape, library_records}
use Rattle.files.proofs.Scanning.{Left}
use Rattle.files.proofs.Entries.{entry_short}
use Rattle.files.proofs.read_library.scan_entries.Given as goal

abbrev pub invariant-loop-after : goal.invariant-loop-after
invariant-loop-after l = Left entry_shape (entry_at l.bytes) l.bytes (entry_short l.bytes) (library_records l.bytes) l.cursor

abbrev pub decreases-loop-after : goal.decreases-loop-after
decreases-loop-after l = length l.bytes - l.cursor.at
