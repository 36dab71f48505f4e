use Rattle.sets.proofs.Words.{one_digit}
use Rattle.sets.proofs.one.Goals as goal

pub returns : goal.returns
returns c = one_digit c.args.i c.requires
