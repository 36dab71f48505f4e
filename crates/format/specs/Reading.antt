-- Reading a board file: what the call answers, and the table afterwards.
use Rattle.std.specs.Prelude.{Bool, true, false, cond, ◌&&◌, List, ℕ, zero, suc, ◌+◌, ◌*◌, leb, eqb, ℤ, length}
use Rattle.graph.specs.Delay.{Delay, absent}
use Rattle.graph.specs.Graph.{Graph}
use Rattle.timing.specs.declared.Refusal.{Refusal}
use Rattle.timing.specs.declared.Refusal.TheVariants.{FileEnds, WrongMark, NotRising, WrongCount, FileGoesOn, WrongLibrary}
use Rattle.timing.specs.Refusal.{number, Verdict, refused, accepted, ◌then◌}
use Rattle.timing.specs.Table.{with_graph}
use Rattle.timing.specs.Checks.{memory_checked, arcs_checked, BoardSizes, sizes}
use Rattle.format.specs.declared.Mark.{Mark}
use Rattle.format.specs.declared.Mark.TheVariants as M
use Rattle.format.specs.declared.Record.{Record}
use Rattle.format.specs.declared.Record.TheVariants as R
use Rattle.format.specs.Library.{library_fits}
use Rattle.format.specs.Records.{byte_at, mark_at, delay_of, record_at, known}

-- stopped by a number at an offset, or got a value
pub data Reading (A : Type 0) : Type 0 where
  stopped : ℕ → ℕ → Reading A
  got : A → Reading A

abbrev pub ask : {A : Type 0} → Bool → Refusal → ℕ → Reading A → Reading A
ask true r p x = x
ask false r p x = stopped (number r) p

infixl 10 ◌next◌
abbrev pub ◌next◌ : {A B : Type 0} → Reading A → (A → Reading B) → Reading B
stopped r p next f = stopped r p
got a next f = f a

-- a verdict on what stands at p
abbrev pub placed : {A : Type 0} → ℕ → Verdict A → Reading A
placed p (refused r) = stopped r p
placed p (accepted a) = got a

-- ---- the library, the first record, and 1, 2, 3 right after its bytes

abbrev pub is_board : Mark → Bool
is_board M.Board = true
is_board M.Arc = false
is_board M.Cell = false
is_board M.End = false
is_board M.Library = false
is_board M.Other = false

unfoldable pub header : List ℕ → Reading BoardSizes
header s =
    ask (leb 2 (length s)) FileEnds 0
    (ask (is_board (mark_at s 0)) WrongMark 0
    (ask (leb 5 (length s)) FileEnds 0
    (got (sizes (byte_at s 2) (byte_at s 3) (byte_at s 4)))))

-- 23 before all else; k is the length of the scratch
unfoldable pub opened : List ℤ → List ℕ → List ℤ → ℕ → Reading BoardSizes
opened l s t k =
    ask (library_fits l) WrongLibrary 0
    (header s next λ b. placed 0 (memory_checked b.inputs b.outputs b.vertices k t) next λ _. got b)

-- ---- the records of a file, whatever they are

-- what a pass asks of a record: its place, by which records rise, and its bytes; or, of the last one, its count
pub data Shape : Type 0 where
  entry : ℕ → ℕ → Shape
  last : ℕ → Shape

-- what the records from an offset on say, with the first place that may follow and the records so far
abbrev pub Onward : Type 0
Onward = ℕ → ℕ → ℕ → Reading (Unit {0})

-- a record at offset p, where places below `low` have been passed and `count` records read; what follows goes on at the next record
abbrev pub rising : List ℕ → ℕ → ℕ → ℕ → Onward → Shape → Reading (Unit {0})
rising s p low count onward (entry x size) = ask (leb low x) NotRising p (onward (p + size) (suc x) (suc count))
rising s p low count onward (last n) = ask (eqb n count) WrongCount p (ask (eqb (p + 4) (length s)) FileGoesOn (p + 4) (got tt))

-- an entry at p makes y of x, and the last record leaves x
abbrev pub worked_in : {A : Type 0} → ℕ → A → A → (ℕ → A → A) → Shape → A
worked_in p x y onward (entry z size) = onward (p + size) y
worked_in p x y onward (last n) = x

-- `shape` is what a pass asks of a record, and `found` the verdict on what stands at an offset
module _ {R : Type 0} (shape : R → Shape) where
  -- a record has four bytes or more, so that as many turns as bytes are enough
  unfoldable pub records_from : ℕ → (ℕ → Verdict R) → List ℕ → Onward
  records_from zero found s p low count = stopped (number FileEnds) p
  records_from (suc turns) found s p low count = placed p (found p) next λ r. rising s p low count (records_from turns found s) (shape r)

  -- the entries from p on, worked into x one after another by f; the first by a verdict on what stands at p
  module _ {A : Type 0} (f : R → A → A) where
    abbrev pub worked_of : ℕ → A → (ℕ → A → A) → Verdict R → A
    worked_of p x onward (refused r) = x
    worked_of p x onward (accepted r) = worked_in p x (f r x) onward (shape r)

    unfoldable pub worked_from : ℕ → (ℕ → Verdict R) → ℕ → A → A
    worked_from zero found p x = x
    worked_from (suc turns) found p x = worked_of p x (worked_from turns found) (found p)

-- ---- those of a board file after the first

-- arcs rise by their cells, by from, then to
abbrev pub board_shape : ℕ → Record → Shape
board_shape N (R.Arc u v d) = entry (N * u + v) 8
board_shape N (R.Cell u v c) = entry (N * u + v) 5
board_shape N (R.End n) = last n

-- the record at p; 17 for a cell whose code the library lacks
abbrev pub known_at : List ℤ → ℕ → List ℕ → ℕ → Verdict Record
known_at l N s p = record_at N s p then known l

unfoldable pub board_records : List ℤ → ℕ → List ℕ → Reading (Unit {0})
board_records l N s = records_from (board_shape N) (length s) (known_at l N s) s 5 0 0

abbrev pub arcs_worked : {A : Type 0} → (Record → A → A) → ℕ → List ℕ → A → A
arcs_worked f N s x = worked_from (board_shape N) f (length s) (record_at N s) 5 x

-- ---- loads: how many of the file's records leave each vertex, AR and CE alike

abbrev pub leaves : Record → ℕ → Bool
leaves (R.Arc u v d) w = eqb u w
leaves (R.Cell u v c) w = eqb u w
leaves (R.End n) w = false

abbrev pub counted : Record → (ℕ → ℕ) → ℕ → ℕ
counted r load w = cond (leaves r w) (suc (load w)) (load w)

abbrev pub no_loads : ℕ → ℕ
no_loads w = 0

unfoldable pub file_loads : ℕ → List ℕ → ℕ → ℕ
file_loads N s = arcs_worked counted N s no_loads

-- ---- the arcs, placed one after another

abbrev pub with_arc : ℕ → ℕ → Delay → Graph → Graph
with_arc u v d g x y = cond (eqb x u && eqb y v) d (g x y)

abbrev pub with_record : List ℤ → (ℕ → ℕ) → Record → Graph → Graph
with_record l load (R.Arc u v d) g = with_arc u v (delay_of l load (R.Arc u v d)) g
with_record l load (R.Cell u v c) g = with_arc u v (delay_of l load (R.Cell u v c)) g
with_record l load (R.End n) g = g

-- no arcs: cells that no record names are absent
abbrev pub no_arcs : Graph
no_arcs u v = absent

unfoldable pub file_graph : List ℤ → ℕ → List ℕ → Graph
file_graph l N s = arcs_worked (with_record l (file_loads N s)) N s no_arcs

-- 5 and 6 of its arcs, at offset 0
abbrev pub file_checked : List ℤ → BoardSizes → List ℕ → Reading Graph
file_checked l b s = placed 0 (arcs_checked b.inputs b.vertices (file_graph l b.vertices s))

-- the records, then 5 and 6
unfoldable pub arcs_read : List ℤ → BoardSizes → List ℕ → Reading Graph
arcs_read l b s = board_records l b.vertices s next λ _. file_checked l b s

-- ---- the call, under library l

unfoldable pub read_call : List ℤ → List ℕ → List ℤ → ℕ → Reading BoardSizes
read_call l s t k = opened l s t k next λ b. arcs_read l b s next λ _. got b

-- refused before the sizes are good, it leaves the table; refused later, N × N absent cells
abbrev pub graph_read : Reading Graph → Graph
graph_read (stopped r p) = no_arcs
graph_read (got g) = g

abbrev pub table_of : List ℤ → Reading BoardSizes → List ℕ → List ℤ → List ℤ
table_of l (stopped r p) s t = t
table_of l (got b) s t = with_graph b.vertices (graph_read (arcs_read l b s)) t

unfoldable pub table_read : List ℤ → List ℕ → List ℤ → ℕ → List ℤ
table_read l s t k = table_of l (opened l s t k) s t
