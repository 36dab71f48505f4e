use Rattle.std.proofs.Common.{◌≡◌, refl, sym, ap, ◌∙◌, rules, to_z, of_z, w64}
use Rattle.reduction.specs.ShareOutputs.{outputs_saved}
use Rattle.timing.specs.Table.{graph_of}
use Rattle.timing.proofs.Verdict.{error_is}
use Rattle.plans.proofs.ShareConditions.{outputs_wrong, outputs_common, outputs_refused}
use Rattle.plans.proofs.share_outputs.share_outputs_verdict.Goals as goal

pub returns-then-not-two_outputs-clause-result_value : goal.returns-then-not-two_outputs-clause-result_value
returns-then-not-two_outputs-clause-result_value c =
    let d = c.args.sorted.now.table.board in
    outputs_wrong d.inputs d.outputs d.vertices c.args.a c.args.b (graph_of d.vertices c.args.sorted.now.table.cells.now) (sym c.two_outputs.ensures ∙ c.if-not-two_outputs.true)

pub returns-in_err-e-clause-result_value : goal.returns-in_err-e-clause-result_value
returns-in_err-e-clause-result_value c =
    let d = c.args.sorted.now.table.board in
    rw (error_is c.from_residual.result _ c.from_residual.ensures.1) (outputs_refused d.inputs d.outputs d.vertices c.args.a c.args.b (graph_of d.vertices c.args.sorted.now.table.cells.now) (sym c.two_outputs.ensures ∙ c.if-not-two_outputs.false) _ c.in_err-e.ensures.result_value _ refl)

pub returns-in_err-e-clause-past_scratch : goal.returns-in_err-e-clause-past_scratch
returns-in_err-e-clause-past_scratch c = c.columns_difference.ensures.past_scratch

pub returns-clause-result_value : goal.returns-clause-result_value
returns-clause-result_value c =
    let d = c.args.sorted.now.table.board in
    let e : to_z w64 (of_z w64 c.in_ok-e.e) ≡ c.in_ok-e.e = search rules in
    c.outputs_saved.ensures c.args.a c.path_back-back.ensures.found_value
    ∙ ap (outputs_saved d.vertices (graph_of d.vertices c.args.sorted.now.table.cells.now) c.args.a c.args.b) e
    ∙ outputs_common d.inputs d.outputs d.vertices c.args.a c.args.b (graph_of d.vertices c.args.sorted.now.table.cells.now) (sym c.two_outputs.ensures ∙ c.if-not-two_outputs.false) _ c.in_ok-e.ensures.result_value _ refl

pub returns-clause-past_scratch : goal.returns-clause-past_scratch
returns-clause-past_scratch c = c.columns_difference.ensures.past_scratch
