use Rattle.std.proofs.Common.{◌≡◌}
use Rattle.paths.specs.Tables.{of_table}
use Rattle.finder.specs.Finding.{found, best_on}
use Rattle.finder.proofs.best.Finder.best.Given as goal

abbrev pub invariant-loop-a : goal.invariant-loop-a
invariant-loop-a l = found l.best ≡ of_table best_on l.self.table l.a
