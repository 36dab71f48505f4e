use Rattle.sets.proofs.Members.{or-member}
use Rattle.sets.proofs.Set.or.Goals as goal

pub returns : goal.returns
returns c = or-member c.args.self c.args.other
