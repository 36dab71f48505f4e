use Rattle.std.proofs.Common.{length, take, ap, ◌∙◌, w64}
use Rattle.std.specs.Int.{cast_unsigned}
use mir.Facts.{to_z-of_z}
use Rattle.codec.specs.Bytes.{pattern}
use Rattle.codec.proofs.Places.{first_bytes, pattern_bytes, number_placed}
use Rattle.codec.proofs.signed.encode.Goals as goal

pub returns : goal.returns
returns c =
    let w = length c.args.bytes.now in
    let e = c.copy_from_slice.ensures.after ∙ ap (take w) (rw (to_z-of_z {w = w64} c.ranges.x) at c.to_le_bytes-all.ensures) ∙ first_bytes w (cast_unsigned w64 c.args.x) c.requires.few ∙ pattern_bytes w c.args.x c.requires.few c.requires.fits_width in
    record { bytes_after = e; placed = e ∙ number_placed c.args.bytes.now (pattern w c.args.x) }
