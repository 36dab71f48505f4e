use Rattle.std.proofs.Common.{◌≡◌}
use Rattle.host.proofs.Filling.{filled}
use Rattle.host.proofs.runs.put_matrix.Given as goal

abbrev pub invariant-loop-x : goal.invariant-loop-x
invariant-loop-x l = l.bytes ≡ filled 8 l.cells l.fn.bytes l.x
