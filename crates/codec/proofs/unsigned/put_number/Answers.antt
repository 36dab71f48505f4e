use Rattle.std.proofs.Common.{length, take, ap, ◌∙◌}
use Rattle.codec.proofs.Places.{first_bytes, number_placed}
use Rattle.codec.proofs.unsigned.put_number.Goals as goal

pub returns : goal.returns
returns c =
    let a = c.args in
    let e = c.copy_from_slice.ensures.after ∙ ap (take (length a.bytes.now)) c.to_le_bytes-all.ensures ∙ first_bytes (length a.bytes.now) a.x c.requires.few in
    record { bytes_after = e; placed = e ∙ number_placed a.bytes.now a.x }
