use Rattle.std.proofs.Common.{◌∙◌}
use Rattle.paths.proofs.Rows.{replicate_is}
use Rattle.paths.proofs.cells.clear.Goals as goal

pub returns : goal.returns
returns c = c.fill.ensures.after (λ y e. e) ∙ replicate_is _ _
