use Rattle.sets.proofs.Members.{and-member}
use Rattle.sets.proofs.Set.and.Goals as goal

pub returns : goal.returns
returns c = and-member c.args.self c.args.other
