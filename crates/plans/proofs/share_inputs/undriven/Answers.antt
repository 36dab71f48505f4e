use Rattle.std.proofs.Common.{sym, ap, ◌∙◌, Bool, not, ◌&&◌, ◌||◌, eqb}
use Rattle.sets.specs.Sets.{holds}
use Rattle.plans.proofs.Undriven.{none_go, undriven_go}
use Rattle.plans.proofs.share_inputs.undriven.Goals as goal

pub returns-then-enough_out : goal.returns-then-enough_out
returns-then-enough_out c a e q = none_go a c.args.b c.args.k e c.requires.sound q (sym c.enough_out.ensures ∙ c.if-enough_out.true) c.empty.result c.empty.ensures

pub returns : goal.returns
returns c a e q =
    let board = c.args.table.now.board in
    undriven_go a c.args.b c.args.k e c.requires.sound q
    c.plus.result c.spread-driven.result (λ u. c.plus.ensures u ∙ ap (λ (x : Bool). eqb u c.args.k || x) (c.range.ensures u)) c.spread-driven.ensures
    c.without.result (λ u. c.without.ensures u ∙ ap (λ (x : Bool). x && not (holds c.spread-driven.result u)) (c.range-2.ensures u)) (sym c.enough_out.ensures ∙ c.if-enough_out.false)
