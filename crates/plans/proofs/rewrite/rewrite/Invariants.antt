use Rattle.std.proofs.Common.{◌≡◌, ◌*◌, ◌++◌, drop}
use Rattle.laws.specs.Lists.{rows}
use Rattle.timing.specs.Table.{graph_of}
use Rattle.plans.specs.Rewritten.{new_cell}
use Rattle.plans.proofs.rewrite.rewrite.Given as goal

abbrev pub invariant-loop-u : goal.invariant-loop-u
invariant-loop-u g l = l.table ≡ rows l.n l.u (new_cell (g.R.Rewriting.rewritten l.how (graph_of l.n l.fn.table))) ++ drop (l.n * l.u) l.fn.table
