use Rattle.std.proofs.Common.{◌≡◌}
use Rattle.graph.specs.Delay.{◌⊖◌}
use Rattle.timing.specs.Limits.{absent_wide}
use Rattle.timing.specs.Table.{write_cell}
use Rattle.timing.specs.Delays.{arrival_in}
use Rattle.paths.specs.Arrivals.{stored}
use Rattle.paths.proofs.margins.fill_margins.Given as goal

abbrev pub invariant-loop-v : goal.invariant-loop-v
invariant-loop-v l = l.margin ≡ stored l.v (λ v. write_cell absent_wide (arrival_in l.required v ⊖ arrival_in l.arrival v)) l.initial.margin
