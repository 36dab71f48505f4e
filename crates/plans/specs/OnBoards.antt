-- Document 01's conditions and new tables, at a board's table.
use Rattle.timing.specs.declared.Refusal.{Refusal}
use Rattle.std.specs.Option.{MatchOption}
use Rattle.std.specs.Prelude.{◌≡◌, Err, Ok, Option, Result, Bool, not, ◌&&◌, ◌||◌, List, ℕ, ◌+◌, ◌≤◌, ◌<◌, T, eqb, ℤ, length}
use Rattle.laws.specs.Bounded.{every}
use Rattle.laws.specs.Lists.{tabulate}
use Rattle.graph.specs.Delay.{◌⊕◌}
use Rattle.graph.specs.Graph.{Graph}
use Rattle.graph.specs.Count.{fan_in, fan_out}
use Rattle.timing.specs.Limits.{delay_limit, fits}
use Rattle.timing.specs.Refusal.{Verdict, number, refused, accepted, ◌then◌, Answers}
use Rattle.timing.specs.Table.{with_graph}
use Rattle.timing.specs.Delays.{matrix, column, arrival_in}
use Rattle.reduction.specs.Outcome.{is_input, is_output, is_inner, unused, fresh_number}
use Rattle.reduction.specs.Common.{common_difference}
use Rattle.reduction.specs.Shrink.{shrink_verdict}
use Rattle.reduction.specs.ShareInputs.{share_inputs_verdict}
use Rattle.reduction.specs.DeletionMeaning.{leaves_undriven, saved_before}
use Rattle.reduction.specs.ShareOutputs.{outputs_saved, share_outputs_verdict}
use Rattle.reduction.specs.MergeBack.{merge_back_verdict}
use Rattle.reduction.specs.Steps.{Step, plan}
use Rattle.paths.specs.declared.board.Board.{Board}
use Rattle.paths.specs.Board.{graph_in}

-- every delay is in range
abbrev pub InRange : Board → List ℤ → Type 0
InRange b t = (u v : ℕ) → T (fits delay_limit (graph_in b t u v))

-- the sums through k are in range
abbrev pub sums_through : Board → List ℤ → ℕ → Bool
sums_through b t k = every b.vertices (λ u. every b.vertices (λ v. fits delay_limit (graph_in b t u k ⊕ graph_in b t k v)))

-- k's fan-in or fan-out is one
abbrev pub relays : Board → List ℤ → ℕ → Bool
relays b t k = eqb (fan_in b.vertices (graph_in b t) k) 1 || eqb (fan_out b.vertices (graph_in b t) k) 1

-- k is an inner vertex that no arc touches
abbrev pub is_free : Board → List ℤ → ℕ → Bool
is_free b t k = is_inner b.inputs b.outputs b.vertices k && unused b.vertices (graph_in b t) k

-- the smallest of these; N where there is none
abbrev pub fresh_on : Board → List ℤ → ℕ
fresh_on b t = fresh_number b.inputs b.outputs b.vertices (graph_in b t)

-- it, where there is one
abbrev pub Free : Board → List ℤ → Option ℕ → Type 0
Free b t free = MatchOption free (b.vertices ≤ fresh_on b t) (λ k. (k ≡ fresh_on b t) × (k < b.vertices))

-- different inputs, and different outputs
abbrev pub two_inputs : Board → ℕ → ℕ → Bool
two_inputs b i j = is_input b.inputs i && is_input b.inputs j && not (eqb i j)

abbrev pub two_outputs : Board → ℕ → ℕ → Bool
two_outputs b i j = is_output b.inputs b.outputs i && is_output b.inputs b.outputs j && not (eqb i j)

-- ---- conditions

abbrev pub shrink_on : Board → List ℤ → ℕ → Verdict (Unit {0})
shrink_on b t k = shrink_verdict b.inputs b.outputs b.vertices k (graph_in b t)

abbrev pub share_inputs_on : Board → List ℤ → ℕ → ℕ → ℕ → Verdict ℤ
share_inputs_on b t i j k = share_inputs_verdict b.inputs b.outputs b.vertices i j k (graph_in b t)

abbrev pub share_outputs_on : Board → List ℤ → ℕ → ℕ → Verdict ℤ
share_outputs_on b t i j = share_outputs_verdict b.inputs b.outputs b.vertices i j (graph_in b t)

abbrev pub merge_back_on : Board → List ℤ → ℕ → Verdict (ℕ × ℤ)
merge_back_on b t o = merge_back_verdict b.inputs b.outputs b.vertices o (graph_in b t)

-- what is left to ask of a share whose difference is e
abbrev pub inputs_saved_on : Board → List ℤ → ℕ → ℤ → Verdict ℤ
inputs_saved_on b t j e = saved_before b.inputs b.outputs b.vertices (graph_in b t) j e

abbrev pub outputs_saved_on : Board → List ℤ → ℕ → ℕ → ℤ → Verdict ℤ
outputs_saved_on b t i j e = outputs_saved b.vertices (graph_in b t) i j e

-- after a share of input j with another, arcs are left that go
abbrev pub leaves_undriven_on : Board → List ℤ → ℕ → Bool
leaves_undriven_on b t j = leaves_undriven b.inputs b.outputs b.vertices (graph_in b t) j

-- of two rows, or two columns, of the delay matrix
abbrev pub rows_difference : Board → List ℤ → ℕ → ℕ → Verdict ℤ
rows_difference b t i j = common_difference b.outputs (matrix b.inputs b.vertices (graph_in b t) i) (matrix b.inputs b.vertices (graph_in b t) j)

abbrev pub columns_difference : Board → List ℤ → ℕ → ℕ → Verdict ℤ
columns_difference b t i j = common_difference b.inputs (column b.vertices (graph_in b t) i) (column b.vertices (graph_in b t) j)

-- of the delays to the outputs in a scratch: those in the second N cells less those in the first N
abbrev pub vectors_difference : Board → List ℤ → Verdict ℤ
vectors_difference b s = common_difference b.outputs (λ j. arrival_in s (b.inputs + j)) (λ j. arrival_in s (b.vertices + (b.inputs + j)))

-- ---- new tables

-- the table with the graph that f makes of its own
abbrev pub changed : Board → (Graph → Graph) → List ℤ → List ℤ
changed b f t = with_graph b.vertices (f (graph_in b t)) t

-- a row of as many cells, each f's
abbrev pub remade : (ℕ → ℤ) → List ℤ → List ℤ
remade f row = tabulate (length row) f

-- ---- a step: its conditions, then its new table

abbrev pub table_by : Board → Step → List ℤ → Verdict (List ℤ)
table_by b q t = plan b.inputs b.outputs b.vertices q (graph_in b t) then λ g'. accepted (with_graph b.vertices g' t)

-- document 01's number, or the table afterwards
abbrev pub fit_table : Result (Unit {0}) Refusal → List ℤ → Verdict (List ℤ)
fit_table (Ok tt) table = accepted table
fit_table (Err r) table = refused (number r)

-- r and the table afterwards are the step's
abbrev pub Applies : Board → Step → List ℤ → List ℤ → Result (Unit {0}) Refusal → Type 0
Applies b q before after r = Answers fit_table (λ t. t) (table_by b q before) before after r
