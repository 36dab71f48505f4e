use Rattle.std.proofs.Common.{refl, arith}
use Rattle.std.proofs.lemmas.Int.{to_z-of_z}
use Rattle.laws.specs.Bounded.{sum}
use Rattle.laws.proofs.Sums.{sum_more}
use Rattle.paths.proofs.ReadCells.{read_bit}
use Rattle.paths.proofs.table.Table.count.Goals as goal
use Rattle.paths.proofs.table.Table.count.Goals.{then-is_arc, else-is_arc}

pub loop-i-init : goal.loop-i-init
unfolding sum
loop-i-init c = record { few = omega arith; counted = refl }

pub loop-i-preserved : goal.loop-i-preserved
loop-i-preserved c = record {
  few = elim c.if-is_arc.branch [ then-is_arc w ↦ omega arith | else-is_arc w ↦ omega arith ];
  counted = elim c.if-is_arc.branch [ then-is_arc w ↦ grind (arith, to_z-of_z, read_bit, sum_more) | else-is_arc w ↦ grind (arith, to_z-of_z, read_bit, sum_more) ];
}
