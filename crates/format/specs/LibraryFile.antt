-- Reading a library file (ticket 3 of document 02): what the call answers, and the library's cells afterwards.
use Rattle.std.specs.Prelude.{cond, List, ℕ, ◌+◌, ◌≤◌, ◌<◌, T, leb, ltb, eqb, ℤ, length}
use Rattle.laws.specs.Lists.{tabulate}
use Rattle.graph.specs.Delay.{Delay, absent, at}
use Rattle.timing.specs.declared.Refusal.TheVariants.{FileEnds, WrongMark, WrongField, WrongLibrary}
use Rattle.timing.specs.Limits.{absent_cell}
use Rattle.timing.specs.Refusal.{number, Verdict, refused, accepted, require}
use Rattle.timing.specs.Table.{write_cell}
use Rattle.codec.specs.Bytes.{unsigned_at, signed_at}
use Rattle.format.specs.declared.Mark.{Mark}
use Rattle.format.specs.declared.Mark.TheVariants as M
use Rattle.format.specs.declared.Entry.{Entry}
use Rattle.format.specs.declared.Entry.TheVariants as E
use Rattle.format.specs.Library.{library_cells, ticks_fit}
use Rattle.format.specs.Records.{byte_at, mark_at}
use Rattle.format.specs.Reading.{Reading, stopped, got, ask, Shape, entry, last, records_from, worked_from}

-- the record at p: the mark first, then the body's length, then the code, then its ticks
module _ (s : List ℕ) (p : ℕ) where
  abbrev pub code : ℕ
  code = byte_at s (p + 2)

  abbrev pub ticks : ℤ
  ticks = signed_at 4 s (p + 3)

  abbrev pub entry_body : Mark → Verdict Entry
  entry_body M.Board = refused (number WrongMark)
  entry_body M.Arc = refused (number WrongMark)
  entry_body M.Cell = refused (number WrongMark)
  entry_body M.End =
      require (leb (p + 4) (length s)) FileEnds
      (accepted (E.End (unsigned_at 2 s (p + 2))))
  entry_body M.Library =
      require (leb (p + 7) (length s)) FileEnds
      (require (ltb code library_cells) WrongField
      (require (ticks_fit ticks) WrongLibrary
      (accepted (E.Ticks code ticks))))
  entry_body M.Other = refused (number WrongMark)

  unfoldable pub entry_at : Verdict Entry
  entry_at = require (leb (p + 2) (length s)) FileEnds (entry_body (mark_at s p))

-- a record that stands at p: its bytes are all there, its code is below 32 and its ticks are in range
abbrev pub LegalEntry : List ℕ → ℕ → Entry → Type 0
LegalEntry s p (E.Ticks c d) = (p + 7 ≤ length s) × (c < library_cells) × T (ticks_fit d)
LegalEntry s p (E.End n) = p + 4 ≤ length s

-- codes rise
abbrev pub entry_shape : Entry → Shape
entry_shape (E.Ticks c d) = entry c 7
entry_shape (E.End n) = last n

unfoldable pub library_records : List ℕ → Reading (Unit {0})
library_records s = records_from entry_shape (length s) (entry_at s) s 0 0 0

-- ---- every named code's ticks, absent elsewhere

abbrev pub with_entry : Entry → (ℕ → Delay) → ℕ → Delay
with_entry (E.Ticks c d) f x = cond (eqb x c) (at d) (f x)
with_entry (E.End n) f x = f x

abbrev pub no_ticks : ℕ → Delay
no_ticks c = absent

unfoldable pub file_ticks : List ℕ → ℕ → Delay
file_ticks s = worked_from entry_shape with_entry (length s) (entry_at s) 0 no_ticks

unfoldable pub file_library : List ℕ → List ℤ
file_library s = tabulate library_cells (λ c. write_cell absent_cell (file_ticks s c))

-- ---- the call: 23 for other than 32 lent cells before all else; refused, it leaves them

unfoldable pub library_call : List ℕ → List ℤ → Reading (Unit {0})
library_call s l = ask (eqb (length l) library_cells) WrongLibrary 0 (library_records s)

abbrev pub library_left : Reading (Unit {0}) → List ℕ → List ℤ → List ℤ
library_left (stopped r p) s l = l
library_left (got x) s l = file_library s

abbrev pub library_read : List ℕ → List ℤ → List ℤ
library_read s l = library_left (library_call s l) s l
