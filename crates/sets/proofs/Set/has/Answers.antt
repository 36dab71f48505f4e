use Rattle.std.proofs.Common.{sym, ◌∙◌}
use Rattle.sets.proofs.Members.{low, high}
use Rattle.sets.proofs.Set.has.Goals as goal

pub returns-then-v-lt64 : goal.returns-then-v-lt64
returns-then-v-lt64 c = c.has_bit.ensures ∙ sym (low c.args.self c.args.v c.if-v-lt64.true)

pub returns : goal.returns
returns c = c.has_bit-2.ensures ∙ sym (high c.args.self c.args.v c.if-v-lt64.false c.requires)
