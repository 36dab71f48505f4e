use Rattle.std.proofs.Common.{◌≡◌, ◌++◌, drop}
use Rattle.laws.specs.Lists.{tabulate}
use Rattle.timing.specs.Limits.{absent_cell}
use Rattle.timing.specs.Table.{write_cell}
use Rattle.format.specs.Library.{ticks_of, value_of}
use Rattle.files.proofs.library.built_in.Given as goal

abbrev pub invariant-loop-code : goal.invariant-loop-code
invariant-loop-code l = l.library ≡ tabulate l.code (λ c. write_cell absent_cell (value_of (ticks_of c))) ++ drop l.code l.fn.library
