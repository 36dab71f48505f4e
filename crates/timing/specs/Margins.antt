-- Required times and margins of a graph with m inputs, n outputs and N vertices, for latest times.
use Rattle.std.specs.Prelude.{Bool, cond, ◌&&◌, List, ℕ, ◌+◌, ◌-◌, leb, ltb, eqb, ℤ, length}
use Rattle.laws.specs.Lists.{tabulate}
use Rattle.graph.specs.Delay.{Delay, absent, ◌⊖◌, ◌⋏◌, smallest}
use Rattle.graph.specs.Graph.{Graph, longest}
use Rattle.timing.specs.declared.Refusal.TheVariants.{ArrivalLists}
use Rattle.timing.specs.Limits.{absent_wide}
use Rattle.timing.specs.Refusal.{Verdict, accepted, require, ◌then◌}
use Rattle.timing.specs.Table.{write_cell}
use Rattle.timing.specs.Checks.{checked}
use Rattle.timing.specs.Delays.{arrival_in, arrivals_fit, arrival_at}

-- the time at v itself, where r has the outputs' required times: an output's own, none at another vertex
abbrev pub own_time : ℕ → ℕ → (ℕ → Delay) → ℕ → Delay
own_time m n r v = cond (leb m v && ltb v (m + n)) (r (v - m)) absent

-- the required time at vertex v: the smallest of its own and of r(j) − D(v,j) over the outputs
unfoldable pub required_at : ℕ → ℕ → ℕ → Graph → (ℕ → Delay) → ℕ → Delay
required_at m n N g r v = own_time m n r v ⋏ smallest n (λ j. r j ⊖ longest g N v (m + j))

-- the margin (003's slack) at vertex v: required time less arrival, absent where either is
unfoldable pub margin_at : ℕ → ℕ → ℕ → Graph → (ℕ → Delay) → (ℕ → Delay) → ℕ → Delay
margin_at m n N g a r v = required_at m n N g r v ⊖ arrival_at m N g a v

-- over all vertices
unfoldable pub least_margin : ℕ → ℕ → ℕ → Graph → (ℕ → Delay) → (ℕ → Delay) → Delay
least_margin m n N g a r = smallest N (margin_at m n N g a r)

-- three lists with a cell for each vertex
pub record Times : Type 0 where
  pub arrival : List ℤ
  pub required : List ℤ
  pub margin : List ℤ

-- N cells
abbrev pub cells : ℕ → (ℕ → Delay) → List ℤ
cells N f = tabulate N (λ v. write_cell absent_wide (f v))

-- the times of all vertices, from the lists of input arrivals and of output required times
unfoldable pub times : ℕ → ℕ → ℕ → Graph → List ℤ → List ℤ → Times
times m n N g a r = record {
  arrival = cells N (arrival_at m N g (arrival_in a));
  required = cells N (required_at m n N g (arrival_in r));
  margin = cells N (margin_at m n N g (arrival_in a) (arrival_in r));
}

-- the least present cell of a list; absent where none is
unfoldable pub least_cell : List ℤ → Delay
least_cell l = smallest (length l) (arrival_in l)

-- each of the three is N long
abbrev pub times_fit : ℕ → Times → Bool
times_fit N x = eqb (length x.arrival) N && eqb (length x.required) N && eqb (length x.margin) N

-- 22 where the arrivals are not m long, the required times not n long, one of either out of range, or an answer list not N long
unfoldable pub margins_into : ℕ → ℕ → ℕ → List ℤ → List ℤ → Times → Graph → Verdict Times
margins_into m n N a r answers g = require (arrivals_fit m a && arrivals_fit n r && times_fit N answers) ArrivalLists (accepted (times m n N g a r))

unfoldable pub margins_call : ℕ → ℕ → ℕ → ℕ → List ℤ → List ℤ → List ℤ → Times → Verdict Times
margins_call m n N s t a r answers = checked m n N s t then margins_into m n N a r answers
