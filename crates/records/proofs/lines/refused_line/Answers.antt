use Rattle.records.proofs.Decimal.{decimal_is}
use Rattle.records.proofs.lines.refused_line.Goals as goal

pub pair_line-requires : goal.pair_line-requires
pair_line-requires c = rw (decimal_is c.args.number c.requires.number_bound, decimal_is c.args.offset c.requires.offset_bound) at c.requires.room

pub returns : goal.returns
returns c = rw (decimal_is c.args.number c.requires.number_bound, decimal_is c.args.offset c.requires.offset_bound) c.pair_line.ensures
