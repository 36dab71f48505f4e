use Rattle.std.proofs.Common.{arith}
use Rattle.laws.proofs.Lists.{length-tabulate}
use Rattle.codec.specs.Bytes.{byte_of}
use Rattle.files.proofs.write.put_end.Goals as goal

pub unsigned-requires-clause-room : goal.unsigned-requires-clause-room
unsigned-requires-clause-room c = record { some = omega arith; few = omega arith; inside = omega (arith, length-tabulate (byte_of c.args.count) 2) }
