use Rattle.std.proofs.Common.{arith}
use Rattle.sets.proofs.Members.{but_member}
use Rattle.sets.proofs.Set.without.Goals as goal

pub returns : goal.returns
returns c = but_member c.args.self c.args.other (omega arith) (omega arith)
