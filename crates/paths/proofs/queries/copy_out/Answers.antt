use Rattle.std.proofs.Common.{◌∙◌, length}
use Rattle.paths.proofs.MatrixRows.{copied}
use Rattle.paths.proofs.queries.copy_out.Goals as goal

pub returns : goal.returns
returns c = c.copy.ensures ∙ copied c.args.f.now c.args.m (length c.args.row.now) c.requires
