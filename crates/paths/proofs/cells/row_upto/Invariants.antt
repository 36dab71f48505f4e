use Rattle.std.proofs.Common.{◌≡◌, get_or, pos}
use Rattle.std.specs.Int.Signed.{le_z}
use Rattle.laws.specs.Bounded.{every}
use Rattle.paths.proofs.cells.row_upto.Given as goal

abbrev pub invariant-loop-x : goal.invariant-loop-x
invariant-loop-x l = l.all ≡ every l.x-index (λ v. le_z (get_or l.row v (pos 0)) l.high)
