use Rattle.plans.proofs.SharedRows.{outputs_row}
use Rattle.plans.proofs.share_outputs.ShareOutputsRewriting.rewrite_row.Goals as goal

pub returns : goal.returns
returns c N t h r =
    let x = c.args.self.now in
    outputs_row r.copied c.args.u r.below c.args.row.now r.is x.a x.b x.e c.share_outputs_row.ensures
