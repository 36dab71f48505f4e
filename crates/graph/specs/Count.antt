-- Arcs, counted among vertices below N.
use Rattle.std.specs.Prelude.{ℕ}
use Rattle.laws.specs.Bounded.{sum}
use Rattle.graph.specs.Delay.{Delay, absent, at}
use Rattle.graph.specs.Graph.{Graph}

unfoldable pub bit : Delay → ℕ
bit absent = 0
bit (at a) = 1

unfoldable pub fan_out : ℕ → Graph → ℕ → ℕ
fan_out N g u = sum N (λ v. bit (g u v))

unfoldable pub fan_in : ℕ → Graph → ℕ → ℕ
fan_in N g v = sum N (λ u. bit (g u v))

unfoldable pub arcs : ℕ → Graph → ℕ
arcs N g = sum N (fan_out N g)
