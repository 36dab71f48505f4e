use Rattle.plans.proofs.MergedTable.{row_mergeable, row_merged}
use Rattle.plans.proofs.merge_back.MergeBackRewriting.rewrite_row.Goals as goal

pub merge_row-requires : goal.merge_row-requires
merge_row-requires c =
    let h = c.requires.2 in
    let r = c.requires.3 in
    row_mergeable r.copied h.0 c.args.u r.below c.args.row.now r.is h.1

pub returns : goal.returns
returns c N t h r = row_merged r.copied h.0 c.args.u r.below c.args.row.now r.is c.merge_row.ensures
