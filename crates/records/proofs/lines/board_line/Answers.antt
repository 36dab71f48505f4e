use Rattle.std.proofs.Common.{arith}
use Rattle.records.proofs.Decimal.{decimal_is}
use Rattle.records.proofs.lines.board_line.Goals as goal

pub triple_line-requires : goal.triple_line-requires
triple_line-requires c =
    rw (decimal_is c.args.inputs (omega arith), decimal_is c.args.outputs (omega arith), decimal_is c.args.vertices (omega arith)) at c.requires.room

pub returns : goal.returns
returns c =
    rw (decimal_is c.args.inputs (omega arith), decimal_is c.args.outputs (omega arith), decimal_is c.args.vertices (omega arith)) c.triple_line.ensures
