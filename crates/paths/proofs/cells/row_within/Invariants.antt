use Rattle.std.proofs.Common.{◌≡◌}
use Rattle.laws.specs.Bounded.{every}
use Rattle.paths.specs.Cells.{cell_at, between}
use Rattle.paths.proofs.cells.row_within.Given as goal

abbrev pub invariant-loop-x : goal.invariant-loop-x
invariant-loop-x l = l.all ≡ every l.x-index (λ v. between l.low l.high (cell_at l.row v))
