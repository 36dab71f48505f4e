use Rattle.std.proofs.Common.{arith}
use Rattle.records.proofs.Decimal.{decimal_is, delay_is}
use Rattle.records.proofs.lines.arc_line.Goals as goal

pub triple_line-requires : goal.triple_line-requires
triple_line-requires c =
    rw (decimal_is c.args.u (omega arith), decimal_is c.args.v (omega arith), delay_is c.args.delay c.ranges.delay c.requires.delay_in_range) at c.requires.room

pub returns : goal.returns
returns c =
    rw (decimal_is c.args.u (omega arith), decimal_is c.args.v (omega arith), delay_is c.args.delay c.ranges.delay c.requires.delay_in_range) c.triple_line.ensures
