use Rattle.std.proofs.Common.{refl, ◌∙◌}
use Rattle.codec.proofs.Places.{read_copied}
use Rattle.codec.proofs.unsigned.number.Goals as goal

pub returns : goal.returns
returns c = c.from_le_bytes.ensures ∙ read_copied c.args.bytes.now c.requires 0 _ c.copy_from_slice.ensures.after refl
