use Rattle.sets.proofs.Members.{plus_low, plus_high}
use Rattle.sets.proofs.Set.plus.Goals as goal

pub returns-then-v-lt64 : goal.returns-then-v-lt64
returns-then-v-lt64 c = plus_low c.args.v c.one.result c.args.self c.if-v-lt64.true c.one.ensures

pub returns : goal.returns
returns c = plus_high c.args.v c.one-2.result c.args.self c.if-v-lt64.false c.requires c.one-2.ensures
