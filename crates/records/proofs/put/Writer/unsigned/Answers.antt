use Rattle.std.proofs.Common.{refl, arith}
use Rattle.records.proofs.Appending.{puts_by, appends_bytes}
use Rattle.records.proofs.put.Writer.unsigned.Goals as goal

pub returns : goal.returns
returns c = puts_by refl (appends_bytes _ _ _ _ _ _ c.requires.room.inside (omega arith) c.put_number.ensures.bytes_after)
