use Rattle.std.proofs.Common.{◌≡◌, ◌<◌, ℕ, length}
use Rattle.graph.specs.Delay.{present}
use Rattle.paths.specs.Tables.{timing_graph}
use Rattle.sets.specs.Sets.{set_at}
use Rattle.reach.specs.RowSets.{Targets}
use Rattle.reach.proofs.Gathered.{Gathered}
use Rattle.reach.proofs.arc_sets.Given as goal

abbrev pub invariant-loop-u : goal.invariant-loop-u
invariant-loop-u l = record {
  long : length l.sources ≡ length l.fn.sources;
  targets : (x : ℕ) → x < l.u → Targets (timing_graph l.table) x (set_at l.targets x);
  sources : (v : ℕ) → v < l.table.board.vertices → Gathered (λ x. present (timing_graph l.table x v)) l.u (set_at l.sources v);
}
