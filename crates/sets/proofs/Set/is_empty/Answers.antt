use Rattle.std.proofs.Common.{arith}
use Rattle.sets.proofs.Members.{none_empty, some_member}
use Rattle.sets.proofs.Set.is_empty.Goals as goal

pub returns-clause-u_value : goal.returns-clause-u_value
returns-clause-u_value c = none_empty c.args.self

pub returns-clause-by_index : goal.returns-clause-by_index
returns-clause-by_index c = some_member c.args.self (omega arith) (omega arith)
