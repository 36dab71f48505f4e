-- Numbers that a line may tell.
use Rattle.std.specs.Prelude.{T, ℤ}
use Rattle.graph.specs.Delay.{at}
use Rattle.timing.specs.Limits.{delay_limit, fits}

-- a delay that a cell may hold
abbrev pub DelayInRange : ℤ → Type 0
DelayInRange d = T (fits delay_limit (at d))
