use Rattle.std.proofs.Common.{sym, arith}
use Rattle.std.proofs.lemmas.Int.{to_z-of_z}
use Rattle.laws.proofs.Bounded.{every_none}
use Rattle.paths.proofs.Rows.{every_next}
use Rattle.paths.proofs.cells.row_upto.Goals as goal

pub loop-x-init : goal.loop-x-init
loop-x-init c = sym (every_none _)

pub loop-x-preserved : goal.loop-x-preserved
loop-x-preserved c = grind (arith, to_z-of_z, every_next)
