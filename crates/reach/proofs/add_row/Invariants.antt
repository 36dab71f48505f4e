use Rattle.std.proofs.Common.{◌≡◌, ◌&&◌, ℕ, ltb}
use Rattle.graph.specs.Delay.{present}
use Rattle.paths.specs.Cells.{cell_at}
use Rattle.sets.specs.Sets.{holds}
use Rattle.reach.specs.RowSets.{Added}
use Rattle.reach.proofs.add_row.Given as goal

abbrev pub invariant-loop-v : goal.invariant-loop-v
invariant-loop-v l = record {
  set : (u : ℕ) → holds l.set u ≡ (ltb u l.v && present (cell_at l.row u));
  added : Added l.u l.row l.v l.fn.sources l.sources;
}
