use Rattle.std.proofs.Common.{refl, sym}
use Rattle.timing.specs.Table.{graph_of}
use Rattle.timing.proofs.Checks.{sound_fits}
use Rattle.timing.proofs.Verdict.{error_is}
use Rattle.reduction.specs.Star.{starred}
use Rattle.reduction.specs.Steps.{star, plan}
use Rattle.plans.proofs.Applying.{step_done, step_refused}
use Rattle.stars.proofs.StarChain.{star_ready}
use Rattle.steps.proofs.apply.apply_star.Goals as goal

pub returns-in_err-star_verdict : goal.returns-in_err-star_verdict
unfolding plan
returns-in_err-star_verdict c =
    let b = c.args.board in
    let t = c.args.table.now in
    rw (error_is c.from_residual.result _ c.from_residual.ensures.1) (step_refused b t (star c.args.sources.now c.args.targets.now c.args.k) (λ _. starred c.args.sources.now c.args.targets.now c.args.k (graph_of b.vertices t)) _ (sym c.in_err-star_verdict.ensures) refl)

pub star_apply-requires-clause-star_ready_on : goal.star_apply-requires-clause-star_ready_on
star_apply-requires-clause-star_ready_on c =
    let b = c.args.board in
    star_ready b.inputs b.outputs b.vertices c.args.sources.now c.args.targets.now c.args.k (graph_of b.vertices c.args.table.now) tt (sound_fits c.requires.sound) (sym c.in_ok-star_verdict.ensures)

pub returns : goal.returns
unfolding plan
returns c =
    let b = c.args.board in
    let t = c.args.table.now in
    step_done b t (star c.args.sources.now c.args.targets.now c.args.k) (λ _. starred c.args.sources.now c.args.targets.now c.args.k (graph_of b.vertices t)) tt (sym c.in_ok-star_verdict.ensures) refl c.star_apply.new.table c.star_apply.ensures
