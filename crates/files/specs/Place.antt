-- Pass 2: what the record at an offset does to the graph, and what all records do.
use Rattle.std.specs.Prelude.{Some}
use Rattle.files.specs.declared.place.Placed.{Placed}
use Rattle.std.specs.Prelude.{None, Option, ◌≡◌, List, ℕ, ◌≤◌, ◌<◌, ℤ}
use Rattle.graph.specs.Graph.{Graph}
use Rattle.timing.specs.Limits.{absent_cell}
use Rattle.timing.specs.Table.{read_cell, graph_of}
use Rattle.format.specs.Records.{record_at}
use Rattle.format.specs.Reading.{worked_of, board_shape, arcs_worked, with_arc, with_record}

-- the graph with the record's arc, and what follows it; or, where nothing follows, the graph as it is
abbrev pub next_graph : Option Placed → Graph → (ℕ → Graph → Graph) → Graph
next_graph (Some a) g onward = onward a.next (with_arc a.from a.to (read_cell absent_cell a.delay) g)
next_graph None g onward = g

-- r is what the record at p of file s does under library l, whatever the graph and whatever follows
abbrev pub Places : List ℤ → ℕ → List ℕ → (ℕ → ℕ) → ℕ → Option Placed → Type 0
Places l N s load p r = (g : Graph) (onward : ℕ → Graph → Graph) → next_graph r g onward ≡ worked_of (board_shape N) (with_record l load) p g onward (record_at N s p)

-- the arc's ends are below N, and the next record begins after p and within the file
abbrev pub NextWithin : ℕ → ℕ → ℕ → Option Placed → Type 0
NextWithin N size p (Some a) = (a.from < N) × (a.to < N) × (p < a.next) × (a.next ≤ size)
NextWithin N size p None = Unit {0}

-- the graph of table t with the arcs of file s
abbrev pub all_placed : List ℤ → ℕ → List ℕ → (ℕ → ℕ) → List ℤ → Graph
all_placed l N s load t = arcs_worked (with_record l load) N s (graph_of N t)
