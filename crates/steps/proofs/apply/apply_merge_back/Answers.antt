use Rattle.std.proofs.Common.{refl, sym, ap, ℤ}
use Rattle.timing.specs.Table.{graph_of}
use Rattle.timing.proofs.Verdict.{error_is}
use Rattle.reduction.specs.MergeBack.{merged_back}
use Rattle.reduction.specs.Steps.{merge_back, plan}
use Rattle.plans.proofs.Applying.{step_handed, step_refused}
use Rattle.steps.proofs.Ready.{merge_ready}
use Rattle.steps.proofs.apply.apply_merge_back.Goals as goal

pub returns-in_err-v : goal.returns-in_err-v
unfolding plan
returns-in_err-v c =
    let b = c.args.board in
    let t = c.args.table.now in
    rw (error_is c.from_residual.result _ c.from_residual.ensures.1) (step_refused b t (merge_back c.args.o) (λ z. merged_back z.0 c.args.o z.1 (graph_of b.vertices t)) _ (sym c.in_err-v.ensures) refl)

pub rewrite-requires-clause-rewritable : goal.rewrite-requires-clause-rewritable
rewrite-requires-clause-rewritable c =
    let r = merge_ready c.args.board c.args.table.now c.args.o c.requires c.in_ok-v.v c.in_ok-v.d (sym c.in_ok-v.ensures) in
    (r.1, r.2)

pub returns : goal.returns
unfolding plan
returns c =
    let b = c.args.board in
    let t = c.args.table.now in
    let r = merge_ready b t c.args.o c.requires c.in_ok-v.v c.in_ok-v.d (sym c.in_ok-v.ensures) in
    step_handed b t (merge_back c.args.o) (λ z. merged_back z.0 c.args.o z.1 (graph_of b.vertices t)) (sym c.in_ok-v.ensures) (ap (λ (z : ℤ). (c.in_ok-v.v, z)) r.0) refl c.rewrite.new.table c.rewrite.ensures
