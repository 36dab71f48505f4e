use Rattle.std.proofs.Common.{◌≡◌, arith}
use Rattle.std.proofs.lemmas.Int.{to_z-of_z}
use Rattle.laws.proofs.Storing.{stored_turn}
use Rattle.graph.specs.Count.{bit}
use Rattle.paths.specs.Cells.{cell_at}
use Rattle.paths.proofs.ReadCells.{byte_of_cell}
use Rattle.paths.proofs.order.lower.Goals as goal

pub overflow_sub-fan : goal.overflow_sub-fan
overflow_sub-fan c =
    let e : c.from.result ≡ bit (cell_at c.args.row.now c.loop-v.v) = grind (arith, to_z-of_z, byte_of_cell) in
    omega (arith, c.loop-v.invariant.left c.loop-v.v (omega arith), c.requires.lowerable c.loop-v.v)

pub loop-v-preserved : goal.loop-v-preserved
loop-v-preserved c =
    let e : c.from.result ≡ bit (cell_at c.args.row.now c.loop-v.v) = grind (arith, to_z-of_z, byte_of_cell) in
    stored_turn c.loop-v.invariant (omega arith) _ (omega (arith, c.loop-v.invariant.left c.loop-v.v (omega arith), c.requires.lowerable c.loop-v.v))
