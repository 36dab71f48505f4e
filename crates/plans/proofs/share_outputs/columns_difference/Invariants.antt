use Rattle.std.proofs.Common.{◌≡◌, ◌≤◌, Ok, ◌-◌, drop}
use Rattle.timing.specs.Table.{graph_of}
use Rattle.timing.specs.Delays.{column}
use Rattle.plans.specs.Comparing.{seen}
use Rattle.plans.proofs.share_outputs.columns_difference.Given as goal

abbrev pub invariant-compare : goal.invariant-compare
invariant-compare l = record {
  within : l.i ≤ l.m;
  past : drop l.walk.table.board.vertices l.scratch ≡ drop l.walk.table.board.vertices l.fn.scratch;
  said : Ok l.seen ≡ seen l.i (column l.walk.table.board.vertices (graph_of l.walk.table.board.vertices l.walk.table.cells.now) l.a) (column l.walk.table.board.vertices (graph_of l.walk.table.board.vertices l.walk.table.cells.now) l.b);
}

abbrev pub decreases-compare : goal.decreases-compare
decreases-compare l = l.m - l.i
