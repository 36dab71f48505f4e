use Rattle.plans.proofs.SharedRows.{row_other}
use Rattle.plans.proofs.share_inputs.ShareInputs.share_inputs_row.Goals as goal

pub returns-else-u-self-3 : goal.returns-else-u-self-3
returns-else-u-self-3 c =
    let x = c.args in
    row_other x.row.now x.via.now x.self.now.a x.self.now.b x.self.now.k x.self.now.e x.u c.if-u-self.false c.if-u-self-2.false c.if-u-self-3.false
