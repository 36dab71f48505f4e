use Rattle.reach.proofs.Gathering.{row_targets}
use Rattle.reach.proofs.targets.Goals as goal

pub returns : goal.returns
returns c = row_targets _ _ c.args.u c.args.table.now.room c.requires _ c.row.ensures c.row_set.result c.row_set.ensures
