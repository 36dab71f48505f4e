use Rattle.std.proofs.Common.{◌≡◌, ◌++◌, drop}
use Rattle.laws.specs.Lists.{tabulate}
use Rattle.host.specs.Runs.{run_cell}
use Rattle.host.proofs.runs.take_table.Given as goal

abbrev pub invariant-loop-x : goal.invariant-loop-x
invariant-loop-x l = l.cells ≡ tabulate l.x (run_cell 4 l.bytes) ++ drop l.x l.fn.cells
