-- A graph that has passed the checks, as facts.
use Rattle.std.specs.Prelude.{ℕ, ◌+◌, ◌≤◌, ◌<◌, T}
use Rattle.graph.specs.Delay.{Delay, present}
use Rattle.graph.specs.Graph.{Graph, Acyclic}
use Rattle.timing.specs.Limits.{delay_limit, fits}

-- an arc that a table may have
pub record LegalArc (m N u v : ℕ) (d : Delay) : Type 0 where
  pub from_below : u < N
  pub to_below : v < N
  pub not_input : m ≤ v
  pub in_range : T (fits delay_limit d)

pub record Sound (m n N : ℕ) (g : Graph) : Type 0 where
  pub legal : (u v : ℕ) → T (present (g u v)) → LegalArc m N u v (g u v)
  pub acyclic : Acyclic g
  pub room : m + n ≤ N
