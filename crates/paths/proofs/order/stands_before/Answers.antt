use Rattle.std.proofs.Common.{◌≡◌, ◌<◌, get_or, sym, ◌∙◌, arith, length-take}
use Rattle.std.proofs.lemmas.List.{get_or-take}
use Rattle.paths.proofs.Scanning.{meets_a, meets_b, meets_none}
use Rattle.paths.proofs.order.stands_before.Goals as goal

pub returns-then-v-a : goal.returns-then-v-a
returns-then-v-a c =
    let l : c.loop-x.x-index < c.args.n = omega (arith, length-take c.args.n c.args.order.now) in
    let e : get_or c.args.order.now c.loop-x.x-index 0 ≡ c.from-v.result = sym (c.from-v.ensures ∙ get_or-take c.args.n c.args.order.now c.loop-x.x-index 0 l) in
    sym (meets_a c.loop-x.invariant l (e ∙ c.if-v-a.true) (λ q. c.if-v-b.false (sym e ∙ q)))

pub returns-after-loop-x : goal.returns-after-loop-x
returns-after-loop-x c = sym (meets_none c.loop-x.invariant (omega (arith, length-take c.args.n c.args.order.now)))

pub returns-then-v-b : goal.returns-then-v-b
returns-then-v-b c =
    let l : c.loop-x.x-index < c.args.n = omega (arith, length-take c.args.n c.args.order.now) in
    let e : get_or c.args.order.now c.loop-x.x-index 0 ≡ c.from-v.result = sym (c.from-v.ensures ∙ get_or-take c.args.n c.args.order.now c.loop-x.x-index 0 l) in
    sym (meets_b c.loop-x.invariant l (e ∙ c.if-v-b.true))
