use Rattle.std.proofs.Common.{arith}
use Rattle.sets.proofs.Members.{minus_low, minus_high}
use Rattle.sets.proofs.Set.minus.Goals as goal

pub returns-then-v-lt64 : goal.returns-then-v-lt64
returns-then-v-lt64 c = minus_low c.args.v c.one.result c.args.self c.if-v-lt64.true c.one.ensures (omega arith)

pub returns : goal.returns
returns c = minus_high c.args.v c.one-2.result c.args.self c.if-v-lt64.false c.requires c.one-2.ensures (omega arith)
