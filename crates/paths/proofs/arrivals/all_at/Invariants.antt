use Rattle.std.proofs.Common.{◌≡◌, ◌≢◌, true, ◌+◌, ◌*◌, ◌<◌, ℕ, length, get_or, pos}
use Rattle.timing.specs.Limits.{absent_wide}
use Rattle.paths.proofs.arrivals.all_at.Given as goal

abbrev pub invariant-loop-l : goal.invariant-loop-l
invariant-loop-l g l = record {
  size : length l.a ≡ g.row.LANES;
  there : (k : ℕ) → k < l.l → l.all ≡ true → (get_or l.a k (pos 0) ≡ get_or l.f (l.n * k + l.u) (pos 0)) × (get_or l.a k (pos 0) ≢ absent_wide);
}
