use Rattle.std.proofs.Common.{◌≡◌, cond, eqb, rules, w32, to_z}
use Rattle.timing.specs.Limits.{absent_cell}
use Rattle.plans.proofs.SharedRows.{outputs_stored}
use Rattle.plans.proofs.share_outputs.ShareOutputs.share_outputs_row.Goals as goal

pub returns : goal.returns
returns c =
    let cell : to_z w32 c.if-u-self.row-bits ≡ cond (eqb c.args.u c.args.self.now.a) c.args.self.now.e absent_cell = search rules in
    outputs_stored c.args.row.now c.args.self.now.a c.args.self.now.b c.args.self.now.e c.args.u _ c.requires cell
