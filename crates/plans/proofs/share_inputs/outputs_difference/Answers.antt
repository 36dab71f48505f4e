use Rattle.std.proofs.Common.{◌∙◌}
use Rattle.plans.proofs.Vectors.{outputs_comparable, outputs_common}
use Rattle.plans.proofs.share_inputs.outputs_difference.Goals as goal

pub common_difference-requires : goal.common_difference-requires
common_difference-requires c = outputs_comparable c.args.board c.args.delays.now c.requires

pub returns : goal.returns
returns c = c.common_difference.ensures ∙ outputs_common c.args.board c.args.delays.now c.requires
