use Rattle.std.proofs.Common.{refl, arith}
use Rattle.laws.specs.Bounded.{sum}
use Rattle.laws.proofs.Sums.{sum_more}
use Rattle.graph.specs.Count.{arcs}
use Rattle.paths.proofs.Rows.{fan_out_few}
use Rattle.paths.proofs.table.Table.arcs.Goals as goal

pub loop-u-init : goal.loop-u-init
unfolding sum
loop-u-init c = record { few = omega arith; counted = refl }

pub overflow_add-total : goal.overflow_add-total
overflow_add-total c = omega (arith, fan_out_few, c.fan_out-total.ensures)

pub loop-u-preserved : goal.loop-u-preserved
loop-u-preserved c = record { few = omega (arith, fan_out_few, c.fan_out-total.ensures); counted = grind (arith, sum_more) }

pub returns : goal.returns
unfolding arcs
returns c = grind arith
