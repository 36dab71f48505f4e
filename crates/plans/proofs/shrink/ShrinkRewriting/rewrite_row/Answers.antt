use Rattle.plans.proofs.ShrunkTable.{row_shrinkable, row_shrunk}
use Rattle.plans.proofs.shrink.ShrinkRewriting.rewrite_row.Goals as goal

pub shrink_row-requires : goal.shrink_row-requires
shrink_row-requires c = let r = c.requires.3 in row_shrinkable r.copied c.args.u r.below c.args.row.now r.is c.requires.2.1

pub returns : goal.returns
returns c N t h r = row_shrunk r.copied c.args.u r.below c.args.row.now r.is c.shrink_row.ensures
