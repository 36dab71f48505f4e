use Rattle.std.proofs.Common.{arith, w32, w64, ◌∙◌}
use mir.Facts.{to_z-of_z}
use Rattle.laws.proofs.Lists.{length-tabulate}
use Rattle.laws.proofs.Signed.{handed, widens}
use Rattle.codec.specs.Bytes.{byte_of, pattern}
use Rattle.codec.proofs.Patterns.{fits_in_width}
use Rattle.records.proofs.Appending.{puts_more}
use Rattle.files.proofs.write.RecordsForm.put.Goals as goal

pub signed-requires-clause-room : goal.signed-requires-clause-room
signed-requires-clause-room c =
    record { some = omega arith; few = omega arith; inside = omega (arith, length-tabulate (byte_of (pattern 4 c.args.delay)) 4) }

pub signed-requires-clause-fits_width : goal.signed-requires-clause-fits_width
signed-requires-clause-fits_width c =
    rw (handed w64 (c.from.ensures ∙ to_z-of_z {w = w32} c.ranges.delay) (widens c.ranges.delay)) (fits_in_width w32 4 (omega arith) c.ranges.delay)

pub returns : goal.returns
returns c =
    let held = handed w64 (c.from.ensures ∙ to_z-of_z {w = w32} c.ranges.delay) (widens c.ranges.delay) in
    puts_more (puts_more (puts_more c.text.ensures c.small.ensures) c.small-2.ensures) (rw held at c.signed.ensures)
