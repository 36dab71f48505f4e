use Rattle.std.proofs.Common.{refl, sym}
use Rattle.timing.specs.Table.{graph_of}
use Rattle.timing.proofs.Verdict.{error_is}
use Rattle.reduction.specs.ShareInputs.{inputs_reduced}
use Rattle.reduction.specs.Steps.{share_inputs, plan}
use Rattle.plans.proofs.Applying.{step_handed, step_refused}
use Rattle.steps.proofs.Ready.{narrow_fits, narrowed, narrowed_accepted, share_inputs_ready}
use Rattle.steps.proofs.step.ShareInputsStep.apply.Goals as goal

pub returns-in_err-e-clause-applies : goal.returns-in_err-e-clause-applies
unfolding plan
returns-in_err-e-clause-applies c =
    let b = c.args.board in
    let t = c.args.table.now in
    rw (error_is c.from_residual.result _ c.from_residual.ensures.1) (step_refused b t (share_inputs c.args.self.now.a c.args.self.now.b c.args.self.now.k) (λ x. inputs_reduced b.inputs b.outputs b.vertices c.args.self.now.a c.args.self.now.b c.args.self.now.k x (graph_of b.vertices t)) _ (sym c.in_err-e.ensures.result_value) refl)

pub narrow-e-requires : goal.narrow-e-requires
narrow-e-requires c =
    let b = c.args.board in
    narrow_fits c.in_ok-e.e (share_inputs_ready b.inputs b.outputs b.vertices c.args.self.now.a c.args.self.now.b c.args.self.now.k (graph_of b.vertices c.args.table.now) c.in_ok-e.e (sym c.in_ok-e.ensures.result_value))

pub share-requires-clause-accepted : goal.share-requires-clause-accepted
share-requires-clause-accepted c =
    let b = c.args.board in
    let q = sym c.in_ok-e.ensures.result_value in
    let r = share_inputs_ready b.inputs b.outputs b.vertices c.args.self.now.a c.args.self.now.b c.args.self.now.k (graph_of b.vertices c.args.table.now) c.in_ok-e.e q in
    narrowed_accepted c.in_ok-e.e r q _ c.narrow-e.type_inv c.narrow-e.ensures

pub returns-clause-applies : goal.returns-clause-applies
unfolding plan
returns-clause-applies c =
    let b = c.args.board in
    let t = c.args.table.now in
    let x = c.args.self.now in
    let q = sym c.in_ok-e.ensures.result_value in
    let r = share_inputs_ready b.inputs b.outputs b.vertices x.a x.b x.k (graph_of b.vertices t) c.in_ok-e.e q in
    step_handed b t (share_inputs x.a x.b x.k) (λ e. inputs_reduced b.inputs b.outputs b.vertices x.a x.b x.k e (graph_of b.vertices t)) q
    (narrowed c.in_ok-e.e r _ c.narrow-e.type_inv c.narrow-e.ensures) refl c.share.new.table c.share.ensures
