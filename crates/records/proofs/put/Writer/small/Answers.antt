use Rattle.std.proofs.Common.{arith}
use Rattle.records.proofs.Appending.{puts_same, byte_alone}
use Rattle.records.proofs.put.Writer.small.Goals as goal

pub unsigned-requires-clause-room : goal.unsigned-requires-clause-room
unsigned-requires-clause-room c = record { some = omega arith; few = omega arith; inside = omega arith }

pub returns : goal.returns
returns c = puts_same (byte_alone c.args.x c.requires.x_bound) c.unsigned.ensures
