use Rattle.std.proofs.Common.{arith}
use Rattle.sets.proofs.Members.{words_none, least_low, least_high}
use Rattle.sets.proofs.Set.first.Goals as goal

pub returns-then-self-ne0 : goal.returns-then-self-ne0
returns-then-self-ne0 c = least_low c.args.self (omega arith) (omega arith)

pub returns-then-self-ne0-2 : goal.returns-then-self-ne0-2
returns-then-self-ne0-2 c = least_high c.args.self (omega arith) (omega arith) (omega arith)

pub returns : goal.returns
returns c = words_none c.args.self (omega arith) (omega arith)
