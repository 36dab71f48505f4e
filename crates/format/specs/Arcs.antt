-- The arcs of a graph, rising by from, then to.
use Rattle.std.specs.Prelude.{List, [], ◌∷◌, ◌++◌, ℕ, zero, suc, ℤ}
use Rattle.graph.specs.Delay.{Delay, absent, at}
use Rattle.graph.specs.Graph.{Graph}

pub record Arc : Type 0 where
  pub from : ℕ
  pub to : ℕ
  pub delay : ℤ

abbrev pub arc_in : ℕ → ℕ → Delay → List Arc
arc_in u v absent = []
arc_in u v (at d) = record { from = u; to = v; delay = d } ∷ []

-- out of u, into the c vertices from v on
unfoldable pub row_arcs : Graph → ℕ → ℕ → ℕ → List Arc
row_arcs g u v zero = []
row_arcs g u v (suc c) = arc_in u v (g u v) ++ row_arcs g u (suc v) c

-- out of the c vertices from u on
unfoldable pub arcs_between : ℕ → Graph → ℕ → ℕ → List Arc
arcs_between N g u zero = []
arcs_between N g u (suc c) = row_arcs g u 0 N ++ arcs_between N g (suc u) c

abbrev pub arcs_of : ℕ → Graph → List Arc
arcs_of N g = arcs_between N g 0 N
