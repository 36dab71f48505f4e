use Rattle.sets.proofs.Members.{empty-member}
use Rattle.sets.proofs.Set.empty.Goals as goal

pub returns : goal.returns
returns c = empty-member
