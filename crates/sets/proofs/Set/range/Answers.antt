use Rattle.std.proofs.Common.{◌≡◌, ◌∙◌, ap, ◌&&◌, ℕ, leb, ltb, arith}
use Rattle.sets.proofs.Set.range.Goals as goal

pub returns : goal.returns
returns c u =
    let end : c.loop-v.v ≡ c.args.to = omega (arith, c.requires.ordered, c.loop-v-test.false, c.loop-v.auto.v, c.loop-v.auto.v-end) in
    c.loop-v.invariant u ∙ ap (λ (v : ℕ). leb c.args.from u && ltb u v) end
