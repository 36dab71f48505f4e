use Rattle.sets.proofs.Words.{odd_shifted}
use Rattle.sets.proofs.has_bit.Goals as goal

pub returns : goal.returns
returns c = odd_shifted c.args.x c.args.i
