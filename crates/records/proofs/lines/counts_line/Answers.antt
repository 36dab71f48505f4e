use Rattle.records.proofs.Decimal.{decimal_is}
use Rattle.records.proofs.lines.counts_line.Goals as goal

pub pair_line-requires : goal.pair_line-requires
pair_line-requires c = rw (decimal_is c.args.steps c.requires.steps_bound, decimal_is c.args.arcs c.requires.arcs_bound) at c.requires.room

pub returns : goal.returns
returns c = rw (decimal_is c.args.steps c.requires.steps_bound, decimal_is c.args.arcs c.requires.arcs_bound) c.pair_line.ensures
