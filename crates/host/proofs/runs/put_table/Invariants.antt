use Rattle.std.proofs.Common.{◌≡◌}
use Rattle.host.proofs.Filling.{filled}
use Rattle.host.proofs.runs.put_table.Given as goal

abbrev pub invariant-loop-x : goal.invariant-loop-x
invariant-loop-x l = l.bytes ≡ filled 4 l.cells l.fn.bytes l.x
