use Rattle.std.proofs.Common.{◌≡◌, ◌&&◌, ℕ, ltb}
use Rattle.graph.specs.Delay.{present}
use Rattle.paths.specs.Cells.{cell_at}
use Rattle.sets.specs.Sets.{holds}
use Rattle.reach.proofs.row_set.Given as goal

abbrev pub invariant-loop-v : goal.invariant-loop-v
invariant-loop-v l = (u : ℕ) → holds l.set u ≡ (ltb u l.v && present (cell_at l.row u))
