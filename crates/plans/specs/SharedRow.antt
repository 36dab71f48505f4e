-- A row of the table when inputs or outputs a and b are shared: `row` is the row of u.
use Rattle.std.specs.Prelude.{◌≡◌, not, cond, List, ℕ, eqb, ℤ, pos, get_or}
use Rattle.graph.specs.Graph.{Graph}
use Rattle.timing.specs.Limits.{absent_cell}
use Rattle.reduction.specs.Prune.{thinned}
use Rattle.reduction.specs.ShareInputs.{inputs_shared, inputs_reduced}
use Rattle.paths.specs.declared.board.Board.{Board}
use Rattle.paths.specs.Board.{graph_in}
use Rattle.sets.specs.declared.Set.{Set}
use Rattle.sets.specs.Sets.{holds}

-- one arc alone, to k
abbrev pub only_arc : ℕ → ℤ → ℕ → ℤ
only_arc k d t = cond (eqb t k) d absent_cell

-- inputs, by way of k: `via` is the row of a
abbrev pub inputs_cell : List ℤ → List ℤ → ℕ → ℕ → ℕ → ℤ → ℕ → ℕ → ℤ
inputs_cell row via a b k e u t =
    cond (eqb u a) (only_arc k (pos 0) t)
    (cond (eqb u b) (only_arc k e t)
    (cond (eqb u k) (get_or via t (pos 0))
    (get_or row t (pos 0))))

-- outputs
abbrev pub outputs_cell : List ℤ → ℕ → ℕ → ℤ → ℕ → ℕ → ℤ
outputs_cell row a b e u t = cond (eqb t b) (cond (eqb u a) e absent_cell) (get_or row t (pos 0))

-- without the arcs of the members of s
unfoldable pub without_arcs : Set → Graph → Graph
without_arcs s g u t = thinned (λ u _. not (holds s u)) g u t

-- the members of s are those that lose their arcs after a share of inputs
abbrev pub Undriven : Board → List ℤ → ℕ → ℕ → ℕ → ℤ → Set → Type 0
Undriven b t i j k e s =
    (u v : ℕ) → inputs_reduced b.inputs b.outputs b.vertices i j k e (graph_in b t) u v ≡ without_arcs s (inputs_shared i j k e (graph_in b t)) u v
