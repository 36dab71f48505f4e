use Rattle.std.proofs.Common.{sym, ◌∙◌}
use Rattle.reduction.specs.Shrink.{shrink_verdict}
use Rattle.plans.proofs.shrink.shrink_verdict.Goals as goal

pub returns-then-not-is_inner : goal.returns-then-not-is_inner
unfolding shrink_verdict
returns-then-not-is_inner c = simp (sym c.is_inner.ensures ∙ c.if-not-is_inner.true)

pub returns-then-not-is_relay : goal.returns-then-not-is_relay
unfolding shrink_verdict
returns-then-not-is_relay c = simp (sym c.is_inner.ensures ∙ c.if-not-is_inner.false, sym c.is_relay.ensures ∙ c.if-not-is_relay.true)

pub returns-then-not-sums_fit : goal.returns-then-not-sums_fit
unfolding shrink_verdict
returns-then-not-sums_fit c =
    simp (sym c.is_inner.ensures ∙ c.if-not-is_inner.false, sym c.is_relay.ensures ∙ c.if-not-is_relay.false, sym c.sums_fit.ensures ∙ c.if-not-sums_fit.true)

pub returns : goal.returns
unfolding shrink_verdict
returns c = simp (sym c.is_inner.ensures ∙ c.if-not-is_inner.false, sym c.is_relay.ensures ∙ c.if-not-is_relay.false, sym c.sums_fit.ensures ∙ c.if-not-sums_fit.false)
