use Rattle.std.proofs.Common.{◌∙◌, w64}
use Rattle.laws.proofs.Signed.{back}
use Rattle.codec.proofs.Places.{read_signed}
use Rattle.codec.proofs.signed.decode.Goals as goal

pub returns : goal.returns
returns c =
    back w64 _ c.from_le_bytes.type_inv ∙ c.from_le_bytes.ensures
    ∙ read_signed c.args.bytes.now c.requires.few c.sign-all.result _ c.copy_from_slice.ensures.after c.requires.some c.type_inv.bytes c.sign-all.ensures.low c.sign-all.ensures.high
