use Rattle.std.proofs.Common.{◌≡◌, ◌+◌, ◌*◌, ◌≤◌}
use Rattle.laws.specs.Bounded.{sum}
use Rattle.graph.specs.Count.{bit}
use Rattle.paths.specs.Cells.{cell_at}
use Rattle.paths.proofs.table.Table.count.Given as goal

abbrev pub invariant-loop-i : goal.invariant-loop-i
invariant-loop-i l = record {
  few : l.total ≤ l.i;
  counted : l.total ≡ sum l.i (λ i. bit (cell_at l.self.cells.now (l.from + l.stride * i)));
}
