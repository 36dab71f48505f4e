use Rattle.std.proofs.Common.{◌≡◌, true}
use Rattle.laws.specs.Bounded.{every}
use Rattle.timing.specs.Limits.{arrival_limit, fits}
use Rattle.timing.specs.Delays.{arrival_in}
use Rattle.paths.proofs.queries.times_fit.Given as goal

abbrev pub invariant-loop-x : goal.invariant-loop-x
invariant-loop-x l = every l.x-index (λ k. fits arrival_limit (arrival_in l.given k)) ≡ true
