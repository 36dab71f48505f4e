use Rattle.std.proofs.Common.{ap}
use Rattle.std.specs.Prelude.{leb}
use Rattle.plans.proofs.share_inputs.enough_out.Goals as goal

pub returns : goal.returns
returns c = ap (leb 3) c.fan_out.ensures
