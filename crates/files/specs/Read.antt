-- What reading a file answers, part by part, and what it leaves in the table.
use Rattle.files.specs.declared.answer.Fault.{Fault}
use Rattle.timing.specs.declared.Refusal.{Refusal}
use Rattle.std.specs.Prelude.{Err, Ok, Result, ◌≡◌, List, ℕ, ℤ}
use Rattle.graph.specs.Graph.{Graph}
use Rattle.timing.specs.Refusal.{number, verdict}
use Rattle.timing.specs.Table.{with_graph}
use Rattle.timing.specs.Checks.{BoardSizes, sizes}
use Rattle.format.specs.Library.{InForce}
use Rattle.format.specs.Reading.{Reading, stopped, got, placed, ◌next◌, graph_read}
use Rattle.paths.specs.declared.board.Board.{Board}
use Rattle.paths.specs.Board.{Lent, sizes_of}
use Rattle.files.specs.Scan.{scan_meaning}

abbrev pub read_meaning : Result Board Fault → Reading BoardSizes
read_meaning (Ok b) = got (sizes_of b)
read_meaning (Err f) = stopped (number f.refusal) f.at

-- refusals in the first record, and 1, 2, 3, are at offset 0
abbrev pub header_meaning : Result (ℕ × ℕ × ℕ) Refusal → Reading BoardSizes
header_meaning (Ok (m, n, N)) = got (sizes m n N)
header_meaning (Err r) = stopped (number r) 0

abbrev pub open_meaning : Result Board Refusal → Reading BoardSizes
open_meaning r = placed 0 (verdict r) next λ b. got (sizes_of b)

-- r says x, and where that is a board, the table has room for it and library l passes
pub record Opens (l : List ℤ) (x : Reading BoardSizes) (t : List ℤ) (r : Result Board Refusal) : Type 0 where
  pub answer : open_meaning r ≡ x
  pub lent : (b : Board) → r ≡ Ok b → Lent b t × InForce l

abbrev pub passed : Reading Graph → Reading (Unit {0})
passed x = x next λ _. got tt

-- r says whether the graph x was read; the table, t before and t' after, then has that graph, else no arcs
pub record Loads (N : ℕ) (x : Reading Graph) (t t' : List ℤ) (r : Result (Unit {0}) Fault) : Type 0 where
  pub answer : scan_meaning r ≡ passed x
  pub table : t' ≡ with_graph N (graph_read x) t
