use Rattle.std.proofs.Common.{ap}
use Rattle.std.specs.Prelude.{leb}
use Rattle.plans.proofs.share_outputs.enough_in.Goals as goal

pub returns : goal.returns
returns c = ap (leb 2) c.fan_in.ensures
