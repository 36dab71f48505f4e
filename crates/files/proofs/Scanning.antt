-- The pass that checks a file's records: turn by turn, what is left says what the whole file says.
use Rattle.std.specs.Prelude.{Ok, Some}
use Rattle.files.specs.declared.answer.Fault.{Fault}
use Rattle.std.specs.Prelude.{Option, Result}
use mathlib.Core.Path.{◌≡◌, refl, sym, ap, ◌∙◌}
use mathlib.Core.List.{List}
use Prim.Native.Nat.{ℕ, zero, suc, ◌+◌, ◌-◌, ◌≤◌, ◌<◌}
use native.Mathlib.Omega.{arith}
use lib.ListN.{length}
use Rattle.timing.specs.declared.Refusal.TheVariants.{FileEnds}
use Rattle.timing.specs.Refusal.{number, Verdict, refused}
use Rattle.format.specs.Reading.{Reading, Shape, records_from}
use Rattle.files.specs.declared.scan.Cursor.{Cursor}
use Rattle.files.specs.Scan.{turn_meaning, found_says, InFile, Turns}
use Rattle.files.proofs.Turning.{turn_means}

-- 15 where no mark fits any more
module _ {R : Type 0} (shape : R → Shape) (found : ℕ → Verdict R) (s : List ℕ) (short : (p : ℕ) → length s < p + 2 → found p ≡ refused (number FileEnds)) where
  -- turns that are enough begin with the record at the cursor: where none is left, so is no byte
  one_turn : (turns : ℕ) (c : Cursor) → length s ≤ turns + c.at → records_from shape turns found s c.at c.low c.count ≡ found_says s c shape (found c.at) (records_from shape (turns - 1) found s)
  unfolding records_from
  one_turn zero c h = simp (short c.at (omega arith))
  one_turn (suc turns) c h =
      let e : turns ≡ suc turns - 1 = omega arith in
      ap (λ (k : ℕ). found_says s c shape (found c.at) (records_from shape k found s)) e

  -- what is left at a cursor of the records
  pub record Left (whole : Reading (Unit {0})) (c : Cursor) : Type 0 where
    pub turns : ℕ
    pub enough : length s ≤ turns + c.at
    pub says : records_from shape turns found s c.at c.low c.count ≡ whole
    pub within : InFile (length s) c

  pub all_left : (p : ℕ) → p ≤ length s → Left (records_from shape (length s) found s p 0 0) (record { at = p; low = 0; count = 0 })
  all_left p h = record { turns = length s; enough = omega arith; says = refl; within = record { inside = h; few = omega arith } }

  -- a turn
  module _ {whole : Reading (Unit {0})} {c : Cursor} {r : Result (Option Cursor) Fault} (l : Left whole c) (t : Turns (length s) c (found_says s c shape (found c.at)) r) where
    -- the answer of a turn that does not go on is that of the file
    pub turn_says : {x : Result (Option Cursor) Fault} → r ≡ x → turn_meaning x (records_from shape (l.turns - 1) found s) ≡ whole
    turn_says e = turn_means t e (records_from shape (l.turns - 1) found s) ∙ sym (one_turn l.turns c l.enough) ∙ l.says

    pub still_left : (d : Cursor) → r ≡ Ok (Some d) → Left whole d
    still_left d e =
        let f = t.further d e in
        record { turns = l.turns - 1; enough = omega (arith, l.enough, f.0); says = turn_says e; within = f.1 }
