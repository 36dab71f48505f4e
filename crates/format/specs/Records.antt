-- The records of a board file.
use Rattle.std.specs.Prelude.{◌≡◌, Bool, cond, ◌&&◌, List, ℕ, suc, ◌+◌, ◌*◌, ◌/◌, ◌≤◌, ◌<◌, T, leb, ltb, eqb, ℤ, pos, negsuc, neg_ℤ, length, get_or}
use Rattle.graph.specs.Delay.{Delay, absent, at}
use Rattle.timing.specs.declared.Refusal.TheVariants.{FileEnds, WrongMark, WrongField}
use Rattle.timing.specs.Limits.{delay_limit, fits}
use Rattle.timing.specs.Refusal.{number, Verdict, refused, accepted, require, ◌then◌}
use Rattle.codec.specs.Bytes.{unsigned_at, signed_at}
use Rattle.format.specs.Library.{ticks_in, value_of}
use Rattle.format.specs.declared.Mark.{Mark}
use Rattle.format.specs.declared.Mark.TheVariants as M
use Rattle.format.specs.declared.Record.{Record}
use Rattle.format.specs.declared.Record.TheVariants as R

abbrev pub byte_at : List ℕ → ℕ → ℕ
byte_at s p = get_or s p 0

-- the letters x and y stand at p
abbrev pub letters : ℕ → ℕ → List ℕ → ℕ → Bool
letters x y s p = eqb (byte_at s p) x && eqb (byte_at s (p + 1)) y

-- BD, AR, CE, EN, CL
unfoldable pub mark_at : List ℕ → ℕ → Mark
mark_at s p =
    cond (letters 66 68 s p) M.Board
    (cond (letters 65 82 s p) M.Arc
    (cond (letters 67 69 s p) M.Cell
    (cond (letters 69 78 s p) M.End
    (cond (letters 67 76 s p) M.Library
    M.Other))))

-- d × (5 + f) / 5, rounded up (ticket 2 of document 02)
abbrev pub under_load : ℤ → ℕ → ℤ
under_load (pos d) f = pos ((d * (5 + f) + 4) / 5)
under_load (negsuc d) f = neg_ℤ (pos (suc d * (5 + f) / 5))

-- a cell's delay, from the library, its code and f, its load
unfoldable pub cell_delay : List ℤ → ℕ → ℕ → Verdict ℤ
cell_delay l c f = ticks_in l c then λ d. accepted (under_load d f)

-- an arc's delay; `load` has a cell's load by its target
abbrev pub delay_of : List ℤ → (ℕ → ℕ) → Record → Delay
delay_of l load (R.Arc u v d) = at d
delay_of l load (R.Cell u v c) = value_of (cell_delay l c (load v))
delay_of l load (R.End n) = absent

-- the record at p in a file of N vertices: the mark first, then the body's length, then its fields
module _ (N : ℕ) (s : List ℕ) (p : ℕ) where
  abbrev pub from : ℕ
  from = byte_at s (p + 2)

  abbrev pub to : ℕ
  to = byte_at s (p + 3)

  abbrev pub body : Mark → Verdict Record
  body M.Board = refused (number WrongMark)
  body M.Arc =
      require (leb (p + 8) (length s)) FileEnds
      (require (ltb from N && ltb to N && fits delay_limit (at (signed_at 4 s (p + 4)))) WrongField
      (accepted (R.Arc from to (signed_at 4 s (p + 4)))))
  body M.Cell =
      require (leb (p + 5) (length s)) FileEnds
      (require (ltb from N && ltb to N) WrongField
      (accepted (R.Cell from to (byte_at s (p + 4)))))
  body M.End =
      require (leb (p + 4) (length s)) FileEnds
      (accepted (R.End (unsigned_at 2 s (p + 2))))
  body M.Library = refused (number WrongMark)
  body M.Other = refused (number WrongMark)

  unfoldable pub record_at : Verdict Record
  record_at = require (leb (p + 2) (length s)) FileEnds (body (mark_at s p))

-- a record that stands at p: its bytes are all there, an arc's ends are vertices, a stated delay is in range, and the source stands after the mark
abbrev pub LegalRecord : ℕ → List ℕ → ℕ → Record → Type 0
LegalRecord N s p (R.Arc u v d) = (p + 8 ≤ length s) × (u < N) × (v < N) × T (fits delay_limit (at d)) × (byte_at s (p + 2) ≡ u)
LegalRecord N s p (R.Cell u v c) = (p + 5 ≤ length s) × (u < N) × (v < N) × (byte_at s (p + 2) ≡ u)
LegalRecord N s p (R.End n) = p + 4 ≤ length s

-- 17 for a cell whose code the library lacks
abbrev pub known : List ℤ → Record → Verdict Record
known l (R.Arc u v d) = accepted (R.Arc u v d)
known l (R.Cell u v c) = ticks_in l c then λ _. accepted (R.Cell u v c)
known l (R.End n) = accepted (R.End n)
