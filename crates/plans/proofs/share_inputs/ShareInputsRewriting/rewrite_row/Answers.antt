use Rattle.std.proofs.Common.{sym, ap, ◌∙◌, ℕ}
use Rattle.laws.specs.Lists.{tabulate}
use Rattle.timing.specs.Limits.{absent_cell}
use Rattle.timing.specs.Table.{graph_of}
use Rattle.reduction.specs.ShareInputs.{inputs_shared}
use Rattle.plans.proofs.CopiedRow.{row_size}
use Rattle.plans.proofs.SharedRows.{inputs_row, undriven_row, driven_row}
use Rattle.plans.proofs.share_inputs.ShareInputsRewriting.rewrite_row.Goals as goal

pub returns-then-has : goal.returns-then-has
returns-then-has c N t h r =
    let x = c.args.self.now in
    undriven_row N x.undriven (inputs_shared x.a x.b x.k x.e (graph_of N t)) c.args.u (sym c.has.ensures ∙ c.if-has.true)
    (c.clear.ensures ∙ ap (λ (n : ℕ). tabulate n (λ _. absent_cell)) (row_size r.copied c.args.u r.below c.args.row.now r.is))

pub returns-else-has : goal.returns-else-has
returns-else-has c N t h r =
    let x = c.args.self.now in
    driven_row N x.undriven (inputs_shared x.a x.b x.k x.e (graph_of N t)) c.args.u (sym c.has.ensures ∙ c.if-has.false)
    (inputs_row r.copied c.args.u r.below c.args.row.now r.is x.b x.k x.e c.share_inputs_row.ensures)
