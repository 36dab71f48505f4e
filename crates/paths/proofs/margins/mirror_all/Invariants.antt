use Rattle.std.proofs.Common.{◌≡◌}
use Rattle.graph.specs.Delay.{mirror}
use Rattle.timing.specs.Limits.{absent_wide}
use Rattle.timing.specs.Table.{write_cell}
use Rattle.timing.specs.Delays.{arrival_in}
use Rattle.paths.specs.Arrivals.{stored}
use Rattle.paths.proofs.margins.mirror_all.Given as goal

abbrev pub invariant-loop-x : goal.invariant-loop-x
invariant-loop-x l = l.f ≡ stored l.x-index (λ v. write_cell absent_wide (mirror (arrival_in l.initial.f v))) l.initial.f
