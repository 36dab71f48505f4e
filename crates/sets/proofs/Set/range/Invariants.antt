use Rattle.std.proofs.Common.{◌≡◌, ◌&&◌, ℕ, leb, ltb}
use Rattle.sets.specs.Sets.{holds}
use Rattle.sets.proofs.Set.range.Given as goal

abbrev pub invariant-loop-v : goal.invariant-loop-v
invariant-loop-v l = (u : ℕ) → holds l.set u ≡ (leb l.from u && ltb u l.v)
