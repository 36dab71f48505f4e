-- The arcs at a vertex (ticket 4 of document 02). Proved in proofs/Most.antt.
use Rattle.std.specs.Prelude.{List, ℕ, ◌+◌, ◌≤◌, ◌<◌, T, ℤ}
use Rattle.graph.specs.Count.{fan_in, fan_out}
use Rattle.timing.specs.Table.{graph_of}
use Rattle.timing.specs.Checks.{passes}

-- in a table that passes its checks the arcs at a vertex, in and out together, are at most 89
abbrev pub FewAtVertex : Type 0
FewAtVertex = (m n N : ℕ) (t : List ℤ) → T (passes m n N t) → (v : ℕ) → v < N
    → fan_in N (graph_of N t) v + fan_out N (graph_of N t) v ≤ 89
