use Rattle.std.proofs.Common.{ap, ◌∙◌, ◌+◌, ℕ}
use Rattle.reduction.specs.Steps.{prune}
use Rattle.run.proofs.Applied.{applied_tries}
use Rattle.run.proofs.Trying.{try_reaches, gained_is}
use Rattle.run.proofs.round.try_prune.Goals as goal

pub returns-clause-leads : goal.returns-clause-leads
returns-clause-leads c =
    let tried = applied_tries c.args.board c.args.table.now prune c.prune_step.new.table c.prune_step.result c.is_ok.result c.prune_step.ensures.applies c.is_ok.ensures.value in
    try_reaches c.requires.running prune c.prune_step.new.table c.is_ok.result tried _ (ap (λ (x : ℕ). c.args.steps + x) (c.from.ensures ∙ gained_is c.is_ok.result))
