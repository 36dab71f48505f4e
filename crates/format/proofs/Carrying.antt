-- What the records of a file that pass carry along.
use mathlib.Core.Path.{◌≡◌}
use mathlib.Core.List.{List}
use Prim.Native.Nat.{ℕ, zero, suc, ◌+◌, ◌≤◌}
use native.Mathlib.Omega.{arith}
use lib.Dec.{leb, leb→le}
use Rattle.timing.specs.declared.Refusal.TheVariants.{NotRising}
use Rattle.timing.specs.Refusal.{Verdict, accepted}
use Rattle.format.specs.Reading.{got, placed, Shape, entry, last, rising, worked_in, records_from, worked_from}
use Rattle.format.proofs.Readings.{ask_got, next_got, placed_got}

-- a record of this shape keeps P, of the first place that may follow and of what is worked on
abbrev pub Keeps : {A : Type 0} → (ℕ → A → Type 0) → A → A → Shape → Type 0
Keeps P x y (entry z size) = (low : ℕ) → low ≤ z → P low x → P (suc z) y
Keeps P x y (last n) = Unit {0}

-- the file passes under `given`, which may refuse what `found` accepts
module _ {R A : Type 0} (shape : R → Shape) (f : R → A → A) (given found : ℕ → Verdict R) (s : List ℕ) (P : ℕ → A → Type 0)
    (same : (p : ℕ) (r : R) → given p ≡ accepted r → found p ≡ accepted r)
    (keeps : (p : ℕ) (r : R) (x : A) → found p ≡ accepted r → Keeps P x (f r x) (shape r)) where
  pub carried : (turns p low count : ℕ) (x : A) → records_from shape turns given s p low count ≡ got tt → P low x → (top : ℕ) × P top (worked_from shape f turns found p x)
  unfolding records_from worked_from
  carried zero p low count x e h = absurd (let z : ◌≡◌ {A = ℕ} 0 1 = cc in omega arith)
  carried (suc turns) p low count x e h =
      let r = next_got (placed p (given p)) _ tt e in
      let is = same p r.0 (placed_got p (given p) r.0 r.1) in
      rw is (go (f r.0 x) (shape r.0) (keeps p r.0 x is) (carried turns) r.2)
    where
      go : (y : A) (sh : Shape) → Keeps P x y sh
          → ((p low count : ℕ) (x : A) → records_from shape turns given s p low count ≡ got tt → P low x → (top : ℕ) × P top (worked_from shape f turns found p x))
          → rising s p low count (records_from shape turns given s) sh ≡ got tt → (top : ℕ) × P top (worked_in p x y (worked_from shape f turns found) sh)
      go y (entry z size) k ih e = let a = ask_got (leb low z) NotRising p _ tt e in ih (p + size) (suc z) (suc count) y a.1 (k low (leb→le low z a.0) h)
      go y (last n) k ih e = (low, h)
