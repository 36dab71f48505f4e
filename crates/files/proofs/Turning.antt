-- What a turn of the pass over the records says.
use Rattle.std.specs.Prelude.{Err, Some}
use Rattle.files.specs.declared.answer.Fault.{Fault}
use Rattle.std.specs.Prelude.{None, Ok, Option, Result}
use mathlib.Core.Path.{◌≡◌, sym, ap, ◌∙◌, subst}
use mathlib.Core.List.{List}
use Prim.Native.Nat.{ℕ, ◌<◌}
use native.Mathlib.Omega.{arith}
use lib.ListN.{length}
use Rattle.timing.specs.declared.Refusal.{Refusal}
use Rattle.timing.specs.Refusal.{number, Verdict}
use Rattle.format.specs.Reading.{Reading, stopped, got, Shape, Onward}
use Rattle.files.specs.declared.scan.Cursor.{Cursor}
use Rattle.files.specs.Scan.{turn_meaning, found_says, InFile, Turns}

module _ {bytes : ℕ} {c : Cursor} {v : Onward → Reading (Unit {0})} where
  pub refuses : (x : Refusal) (p : ℕ) → ((onward : Onward) → stopped (number x) p ≡ v onward) → Turns bytes c v (Err (record { refusal = x; at = p }))
  refuses x p h = record { meaning = h; further = λ d e. absurd (let z : ◌≡◌ {A = ℕ} 0 1 = cc in omega arith) }

  pub ends : ((onward : Onward) → got tt ≡ v onward) → Turns bytes c v (Ok None)
  ends h = record { meaning = h; further = λ d e. absurd (let z : ◌≡◌ {A = ℕ} 0 1 = cc in omega arith) }

  pub goes_on : (d : Cursor) → ((onward : Onward) → onward d.at d.low d.count ≡ v onward) → c.at < d.at → InFile bytes d → Turns bytes c v (Ok (Some d))
  goes_on d h l w = record { meaning = h; further = λ x e. subst (λ (y : Cursor). (c.at < y.at) × InFile bytes y) (same d x e) (l, w) }
    where
      same : (x y : Cursor) → ◌≡◌ {A = Result (Option Cursor) Fault} (Ok (Some x)) (Ok (Some y)) → x ≡ y
      same x y e = cc

-- what is meant by a turn, once it is known to be x
pub turn_means : {bytes : ℕ} {c : Cursor} {v : Onward → Reading (Unit {0})} {r x : Result (Option Cursor) Fault} → Turns bytes c v r → r ≡ x → (onward : Onward) → turn_meaning x onward ≡ v onward
turn_means t e onward = ap (λ (y : Result (Option Cursor) Fault). turn_meaning y onward) (sym e) ∙ t.meaning onward

-- what a record or a verdict says, once it is known to be y
module _ {R : Type 0} (shape : R → Shape) {c : Cursor} {r : Result (Option Cursor) Fault} (s : List ℕ) where
  pub found_is : {x y : Verdict R} → x ≡ y → Turns (length s) c (found_says s c shape y) r → Turns (length s) c (found_says s c shape x) r
  found_is e t = subst (λ (z : Verdict R). Turns (length s) c (found_says s c shape z) r) (sym e) t
