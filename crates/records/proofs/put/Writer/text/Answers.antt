use Rattle.std.proofs.Common.{refl, arith}
use Rattle.records.proofs.Appending.{puts_by, appends_part}
use Rattle.records.proofs.put.Writer.text.Goals as goal

pub returns : goal.returns
returns c = puts_by refl (rw c.copy_from_slice.ensures.after (appends_part _ _ _ _ c.requires (omega arith)))
