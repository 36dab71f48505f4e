use Rattle.std.proofs.Common.{ℕ, ◌<◌}
use Rattle.paths.specs.Tables.{timing_graph}
use Rattle.sets.specs.Sets.{set_at}
use Rattle.reach.specs.RowSets.{Targets}
use Rattle.reach.proofs.row_sets.Given as goal

abbrev pub invariant-loop-u : goal.invariant-loop-u
invariant-loop-u l = (x : ℕ) → x < l.u → Targets (timing_graph l.table) x (set_at l.sets x)
