-- What the pass over the records answers, record by record.
use Rattle.std.specs.Prelude.{Err, Some}
use Rattle.files.specs.declared.answer.Fault.{Fault}
use Rattle.std.specs.Prelude.{None, Ok, Option, Result, ◌≡◌, List, ℕ, suc, ◌≤◌, ◌<◌, leb, ℤ}
use Rattle.timing.specs.declared.Refusal.TheVariants.{NotRising}
use Rattle.timing.specs.Refusal.{number, Verdict}
use Rattle.format.specs.declared.Record.{Record}
use Rattle.format.specs.Reading.{Reading, stopped, got, ask, placed, ◌next◌, Shape, Onward, rising, board_shape, board_records, file_loads}
use Rattle.files.specs.declared.scan.Cursor.{Cursor}
use Rattle.files.specs.Loads.{loads_of}

abbrev pub turn_meaning : Result (Option Cursor) Fault → Onward → Reading (Unit {0})
turn_meaning (Ok (Some c)) onward = onward c.at c.low c.count
turn_meaning (Ok None) onward = got tt
turn_meaning (Err f) onward = stopped (number f.refusal) f.at

abbrev pub scan_meaning : Result (Unit {0}) Fault → Reading (Unit {0})
scan_meaning (Ok tt) = got tt
scan_meaning (Err f) = stopped (number f.refusal) f.at

-- what a record with place x at the cursor says; what follows it stands at `after`
abbrev pub entry_says : Cursor → ℕ → ℕ → Onward → Reading (Unit {0})
entry_says c x after onward = ask (leb c.low x) NotRising c.at (onward after (suc x) (suc c.count))

-- what any record at the cursor of file s says, and what a verdict on it says
module _ (s : List ℕ) (c : Cursor) where
  abbrev pub shape_says : Shape → Onward → Reading (Unit {0})
  shape_says x onward = rising s c.at c.low c.count onward x

  abbrev pub found_says : {R : Type 0} → (R → Shape) → Verdict R → Onward → Reading (Unit {0})
  found_says shape v onward = placed c.at v next λ r. shape_says (shape r) onward

  -- in a board file of N vertices
  abbrev pub record_says : ℕ → Record → Onward → Reading (Unit {0})
  record_says N x = shape_says (board_shape N x)

-- a cursor in a file of so many bytes; each record so far had its bytes
pub record InFile (bytes : ℕ) (c : Cursor) : Type 0 where
  pub inside : c.at ≤ bytes
  pub few : c.count ≤ c.at

-- r is what v says, whatever follows; where it goes on, it is further on
pub record Turns (bytes : ℕ) (c : Cursor) (v : Onward → Reading (Unit {0})) (r : Result (Option Cursor) Fault) : Type 0 where
  pub meaning : (onward : Onward) → turn_meaning r onward ≡ v onward
  pub further : (d : Cursor) → r ≡ Ok (Some d) → (c.at < d.at) × InFile bytes d

-- r is what the records of file s say, under library l; where all are good, `loads` has their loads
pub record Scans (l : List ℤ) (N : ℕ) (s loads : List ℕ) (r : Result (Unit {0}) Fault) : Type 0 where
  pub answer : scan_meaning r ≡ board_records l N s
  pub counted : r ≡ Ok tt → loads_of loads ≡ file_loads N s
