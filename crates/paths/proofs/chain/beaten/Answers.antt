use Rattle.std.proofs.Common.{arith}
use Rattle.std.proofs.lemmas.Int.{to_z-of_z}
use Rattle.laws.proofs.Signed.{widens}
use Rattle.paths.proofs.Walked.{two_fit, below-cells}
use Rattle.paths.proofs.chain.beaten.Goals as goal

pub returns : goal.returns
returns c = grind (arith, to_z-of_z, widens, two_fit, below-cells)
