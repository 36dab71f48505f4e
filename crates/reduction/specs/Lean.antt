-- A graph without arcs to spare: every arc lies on a path of delay M(i,j) for some joined i, j, so that prune would take none.
use Rattle.std.specs.Prelude.{List, ℕ, T, ℤ}
use Rattle.graph.specs.Delay.{present}
use Rattle.graph.specs.Graph.{Graph}
use Rattle.timing.specs.Table.{graph_of}
use Rattle.reduction.specs.Outcome.{every_pair}
use Rattle.reduction.specs.Prune.{critical}

pub record Lean (m n N : ℕ) (g : Graph) : Type 0 where
  pub deciding : (u t : ℕ) → T (present (g u t)) → T (critical every_pair m n N g u t)

abbrev pub LeanTable : ℕ → ℕ → ℕ → List ℤ → Type 0
LeanTable m n N t = Lean m n N (graph_of N t)
