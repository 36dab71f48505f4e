use Rattle.std.proofs.Common.{refl, sym}
use Rattle.timing.specs.Table.{graph_of}
use Rattle.timing.proofs.Verdict.{error_is}
use Rattle.reduction.specs.Shrink.{shrunk}
use Rattle.reduction.specs.Steps.{shrink, plan}
use Rattle.plans.proofs.Applying.{step_done, step_refused}
use Rattle.steps.proofs.Ready.{shrink_ready}
use Rattle.steps.proofs.apply.apply_shrink.Goals as goal

pub returns-in_err-shrink_verdict : goal.returns-in_err-shrink_verdict
unfolding plan
returns-in_err-shrink_verdict c =
    let b = c.args.board in
    let t = c.args.table.now in
    rw (error_is c.from_residual.result _ c.from_residual.ensures.1) (step_refused b t (shrink c.args.k) (λ _. shrunk c.args.k (graph_of b.vertices t)) _ (sym c.in_err-shrink_verdict.ensures) refl)

pub rewrite-requires-clause-rewritable : goal.rewrite-requires-clause-rewritable
rewrite-requires-clause-rewritable c =
    let b = c.args.board in
    shrink_ready b.inputs b.outputs b.vertices c.args.k (graph_of b.vertices c.args.table.now) (sym c.in_ok-shrink_verdict.ensures)

pub returns : goal.returns
unfolding plan
returns c =
    let b = c.args.board in
    let t = c.args.table.now in
    step_done b t (shrink c.args.k) (λ _. shrunk c.args.k (graph_of b.vertices t)) tt (sym c.in_ok-shrink_verdict.ensures) refl c.rewrite.new.table c.rewrite.ensures
