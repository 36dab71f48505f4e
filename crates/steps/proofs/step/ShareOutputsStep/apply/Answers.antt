use Rattle.std.proofs.Common.{refl, sym}
use Rattle.timing.specs.Table.{graph_of}
use Rattle.timing.proofs.Verdict.{error_is}
use Rattle.reduction.specs.ShareOutputs.{outputs_shared}
use Rattle.reduction.specs.Steps.{share_outputs, plan}
use Rattle.plans.proofs.Applying.{step_handed, step_refused}
use Rattle.steps.proofs.Ready.{narrow_fits, narrowed, share_outputs_ready}
use Rattle.steps.proofs.step.ShareOutputsStep.apply.Goals as goal

pub returns-in_err-e-clause-applies : goal.returns-in_err-e-clause-applies
unfolding plan
returns-in_err-e-clause-applies c =
    let b = c.args.board in
    let t = c.args.table.now in
    rw (error_is c.from_residual.result _ c.from_residual.ensures.1) (step_refused b t (share_outputs c.args.self.now.a c.args.self.now.b) (λ x. outputs_shared c.args.self.now.a c.args.self.now.b x (graph_of b.vertices t)) _ (sym c.in_err-e.ensures.result_value) refl)

pub narrow-e-requires : goal.narrow-e-requires
narrow-e-requires c =
    let b = c.args.board in
    narrow_fits c.in_ok-e.e (share_outputs_ready b.inputs b.outputs b.vertices c.args.self.now.a c.args.self.now.b (graph_of b.vertices c.args.table.now) c.in_ok-e.e c.args.board.sized.roles (sym c.in_ok-e.ensures.result_value)).1

pub rewrite-requires-clause-rewritable : goal.rewrite-requires-clause-rewritable
rewrite-requires-clause-rewritable c =
    let b = c.args.board in
    let r = share_outputs_ready b.inputs b.outputs b.vertices c.args.self.now.a c.args.self.now.b (graph_of b.vertices c.args.table.now) c.in_ok-e.e c.args.board.sized.roles (sym c.in_ok-e.ensures.result_value) in
    r.0

pub returns-clause-applies : goal.returns-clause-applies
unfolding plan
returns-clause-applies c =
    let b = c.args.board in
    let t = c.args.table.now in
    let r = share_outputs_ready b.inputs b.outputs b.vertices c.args.self.now.a c.args.self.now.b (graph_of b.vertices c.args.table.now) c.in_ok-e.e c.args.board.sized.roles (sym c.in_ok-e.ensures.result_value) in
    let same = narrowed c.in_ok-e.e r.1 _ c.narrow-e.type_inv c.narrow-e.ensures in
    step_handed b t (share_outputs c.args.self.now.a c.args.self.now.b) (λ x. outputs_shared c.args.self.now.a c.args.self.now.b x (graph_of b.vertices t)) (sym c.in_ok-e.ensures.result_value) same refl c.rewrite.new.table c.rewrite.ensures
