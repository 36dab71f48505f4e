use Rattle.std.proofs.Common.{◌≡◌, refl, sym, ap, ◌∙◌, rules, to_z, of_z, w64}
use Rattle.timing.specs.Table.{graph_of}
use Rattle.timing.proofs.Verdict.{error_is}
use Rattle.reduction.specs.DeletionMeaning.{saved_before}
use Rattle.plans.proofs.ShareConditions.{inputs_wrong, number_taken, inputs_common, inputs_refused}
use Rattle.plans.proofs.share_inputs.share_inputs_verdict.Goals as goal

pub returns-then-not-two_inputs-clause-result_value : goal.returns-then-not-two_inputs-clause-result_value
returns-then-not-two_inputs-clause-result_value c =
    let d = c.args.sorted.now.table.board in
    inputs_wrong d.inputs d.outputs d.vertices c.args.a c.args.b c.args.k c.args.sorted.now.sound (sym c.two_inputs.ensures ∙ c.if-not-two_inputs.true)

pub returns-then-not-is_free-clause-result_value : goal.returns-then-not-is_free-clause-result_value
returns-then-not-is_free-clause-result_value c =
    let d = c.args.sorted.now.table.board in
    number_taken d.inputs d.outputs d.vertices c.args.a c.args.b c.args.k c.args.sorted.now.sound (sym c.two_inputs.ensures ∙ c.if-not-two_inputs.false) (sym c.is_free.ensures ∙ c.if-not-is_free.true)

pub returns-in_err-e-clause-result_value : goal.returns-in_err-e-clause-result_value
returns-in_err-e-clause-result_value c =
    let d = c.args.sorted.now.table.board in
    rw (error_is c.from_residual.result _ c.from_residual.ensures.1) (inputs_refused d.inputs d.outputs d.vertices c.args.a c.args.b c.args.k c.args.sorted.now.sound (sym c.two_inputs.ensures ∙ c.if-not-two_inputs.false) (sym c.is_free.ensures ∙ c.if-not-is_free.false) _ c.in_err-e.ensures.result_value _ refl)

pub returns-in_err-e-clause-past_scratch : goal.returns-in_err-e-clause-past_scratch
returns-in_err-e-clause-past_scratch c = c.rows_difference.ensures.past_scratch

pub returns-clause-result_value : goal.returns-clause-result_value
returns-clause-result_value c =
    let d = c.args.sorted.now.table.board in
    let e : to_z w64 (of_z w64 c.in_ok-e.e) ≡ c.in_ok-e.e = search rules in
    c.inputs_saved.ensures.result_value ∙ ap (saved_before d.inputs d.outputs d.vertices (graph_of d.vertices c.args.sorted.now.table.cells.now) c.args.b) e ∙ inputs_common d.inputs d.outputs d.vertices c.args.a c.args.b c.args.k c.args.sorted.now.sound (sym c.two_inputs.ensures ∙ c.if-not-two_inputs.false) (sym c.is_free.ensures ∙ c.if-not-is_free.false) _ c.in_ok-e.ensures.result_value _ refl

pub returns-clause-past_scratch : goal.returns-clause-past_scratch
returns-clause-past_scratch c = c.rows_difference.ensures.past_scratch

pub inputs_saved-requires-clause-drivers_of : goal.inputs_saved-requires-clause-drivers_of
inputs_saved-requires-clause-drivers_of c = tt
