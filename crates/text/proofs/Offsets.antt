-- A reading stops inside the file.
use mathlib.Core.Path.{◌≡◌, refl}
use mathlib.Core.Bool.{Bool, true, false}
use mathlib.Core.List.{List}
use Prim.Native.Nat.{ℕ, zero, suc, ◌+◌, ◌*◌, ◌≤◌}
use native.Mathlib.Omega.{arith}
use lib.Dec.{leb, eqb}
use lib.IntN.{ℤ}
use lib.ListN.{length}
use Rattle.timing.specs.declared.Refusal.{Refusal}
use Rattle.timing.specs.declared.Refusal.TheVariants.{FileEnds, WrongMark, NotRising, WrongCount, FileGoesOn, WrongLibrary}
use Rattle.timing.specs.Refusal.{Verdict, refused, accepted}
use Rattle.timing.specs.Checks.{memory_checked, arcs_checked, BoardSizes}
use Rattle.format.specs.declared.Record.{Record}
use Rattle.format.specs.declared.Record.TheVariants as R
use Rattle.format.specs.Library.{library_fits}
use Rattle.format.specs.Records.{mark_at, record_at}
use Rattle.format.specs.Reading.{Reading, stopped, got, ask, placed, ◌next◌, is_board, header, opened, Onward, rising, records_from, board_shape, known_at, board_records, file_graph, arcs_read, read_call}
use Rattle.format.proofs.AcceptedRecords.{legal, stands}
use Rattle.files.proofs.Opening.{opened_long}

abbrev pub StopsBy : {A : Type 0} → ℕ → Reading A → Type 0
StopsBy l (stopped r p) = p ≤ l
StopsBy l (got a) = Unit {0}

module _ {A : Type 0} (l : ℕ) where
  by_ask : (b : Bool) (r : Refusal) (p : ℕ) (x : Reading A) → p ≤ l → StopsBy l x → StopsBy l (ask b r p x)
  by_ask true r p x h k = k
  by_ask false r p x h k = h

  by_placed : (v : Verdict A) (p : ℕ) → p ≤ l → StopsBy l (placed p v)
  by_placed (refused r) p h = h
  by_placed (accepted a) p h = tt

  by_next : {B : Type 0} (x : Reading B) (f : B → Reading A) → StopsBy l x → ((b : B) → x ≡ got b → StopsBy l (f b)) → StopsBy l (x next f)
  by_next (stopped r p) f h k = h
  by_next (got b) f h k = k b refl

module _ (lib : List ℤ) (N : ℕ) (s : List ℕ) where
  -- what the records from an offset on say, in so many turns
  abbrev from : ℕ → Onward
  from turns = records_from (board_shape N) turns (known_at lib N s) s

  records_stop : (turns p low count : ℕ) → p ≤ length s → StopsBy (length s) (from turns p low count)
  unfolding records_from
  records_stop zero p low count l = l
  records_stop (suc turns) p low count l = go (records_stop turns) (known_at lib N s p) (stands lib N s p)
    where
      go : ((q low count : ℕ) → q ≤ length s → StopsBy (length s) (from turns q low count)) → (v : Verdict Record) → ((r : Record) → v ≡ accepted r → record_at N s p ≡ accepted r)
          → StopsBy (length s) (placed p v next λ r. rising s p low count (from turns) (board_shape N r))
      go ih (refused r) e = l
      go ih (accepted (R.Arc u v d)) e = by_ask (length s) (leb low (N * u + v)) NotRising p _ l (ih (p + 8) (suc (N * u + v)) (suc count) (legal N s p (R.Arc u v d) (e _ refl)).0)
      go ih (accepted (R.Cell u v c)) e = by_ask (length s) (leb low (N * u + v)) NotRising p _ l (ih (p + 5) (suc (N * u + v)) (suc count) (legal N s p (R.Cell u v c) (e _ refl)).0)
      go ih (accepted (R.End n)) e = by_ask (length s) (eqb n count) WrongCount p _ l (by_ask (length s) (eqb (p + 4) (length s)) FileGoesOn (p + 4) (got tt) (legal N s p (R.End n) (e _ refl)) tt)

module _ (lib : List ℤ) (s : List ℕ) where
  none : 0 ≤ length s
  none = omega arith

  header_stops : StopsBy (length s) (header s)
  unfolding header
  header_stops = by_ask (length s) (leb 2 (length s)) FileEnds 0 _ none (by_ask (length s) (is_board (mark_at s 0)) WrongMark 0 _ none (by_ask (length s) (leb 5 (length s)) FileEnds 0 _ none tt))

  opened_stops : (t : List ℤ) (k : ℕ) → StopsBy (length s) (opened lib s t k)
  unfolding opened
  opened_stops t k = by_ask (length s) (library_fits lib) WrongLibrary 0 _ none (by_next (length s) (header s) _ header_stops (λ b _.
      by_next (length s) (placed 0 (memory_checked b.inputs b.outputs b.vertices k t)) (λ _. got b) (by_placed (length s) (memory_checked b.inputs b.outputs b.vertices k t) 0 none) (λ _ _. tt)))

  arcs_stop : (b : BoardSizes) → 5 ≤ length s → StopsBy (length s) (arcs_read lib b s)
  unfolding arcs_read board_records
  arcs_stop b l = by_next (length s) (board_records lib b.vertices s) _ (records_stop lib b.vertices s (length s) 5 0 0 l) (λ _ _.
      by_placed (length s) (arcs_checked b.inputs b.vertices (file_graph lib b.vertices s)) 0 none)

  pub read_stops : (t : List ℤ) (k : ℕ) → StopsBy (length s) (read_call lib s t k)
  unfolding read_call
  read_stops t k = by_next (length s) (opened lib s t k) _ (opened_stops t k) (λ b e. by_next (length s) (arcs_read lib b s) (λ _. got b) (arcs_stop b (opened_long lib s t k b e)) (λ _ _. tt))
