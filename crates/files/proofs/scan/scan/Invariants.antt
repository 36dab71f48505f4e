use Rattle.std.proofs.Common.{length, ◌-◌}
use Rattle.format.specs.Reading.{board_shape, known_at, board_records}
use Rattle.files.proofs.Scanning.{Left}
use Rattle.files.proofs.Counting.{known_short, Counting}
use Rattle.files.proofs.scan.scan.Given as goal

abbrev pub invariant-loop-after : goal.invariant-loop-after
invariant-loop-after l = record {
  left : Left (board_shape l.n) (known_at l.library l.n l.bytes) l.bytes (known_short l.library l.n l.bytes) (board_records l.library l.n l.bytes) l.cursor;
  counting : Counting l.n l.bytes l.loads l.cursor;
}

abbrev pub decreases-loop-after : goal.decreases-loop-after
decreases-loop-after l = length l.bytes - l.cursor.at
