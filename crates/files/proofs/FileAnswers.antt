-- What `write` answers, from its checks and from what it put.
use Rattle.std.specs.Prelude.{Err, Ok, Result}
use mathlib.Core.Path.{◌≡◌, refl, sym, ap, ◌∙◌}
use mathlib.Core.Bool.{Bool, true}
use mathlib.Core.List.{List, ◌++◌}
use Prim.Native.Nat.{ℕ, ◌+◌, ◌≤◌, ◌<◌}
use native.Mathlib.Omega.{arith}
use borrow.Author.Tests.{le-leb, lt-leb}
use lib.IntN.{ℤ}
use lib.ListN.{length, drop}
use lib.Seq.{sets-eq}
use Rattle.graph.specs.Graph.{Graph}
use Rattle.timing.specs.declared.Refusal.{Refusal}
use Rattle.timing.specs.declared.Refusal.TheVariants.{DestinationShort}
use Rattle.timing.specs.Refusal.{Verdict, accepted, require, left_by}
use Rattle.paths.specs.declared.sorted.Sorted.{Sorted}
use Rattle.paths.specs.Tables.{of_table}
use Rattle.paths.specs.Checked.{Checking}
use Rattle.paths.proofs.Answering.{answers_on, answers_refused}
use Rattle.format.specs.Writing.{file_of, Written, file_into, write_call}
use Rattle.records.specs.Appending.{Appends}
use Rattle.files.specs.Writing.{Writes, file_on}

module _ (m n N : ℕ) (g : Graph) (destination : List ℕ) where
  abbrev file : List ℕ
  file = file_of m n N g

  -- the verdict, by the test of the destination's length
  abbrev answer : Bool → Verdict Written
  answer b = require b DestinationShort (accepted (record { bytes = file ++ drop (length file) destination; count = length file }))

  pub file_short : length destination < length file → Writes (file_into m n N destination g) destination destination (Err DestinationShort)
  file_short l = let e = ap answer (lt-leb (length file) (length destination) l) in record { answer = sym e; left = sym (ap (λ (v : Verdict Written). left_by (λ (w : Written). w.bytes) v destination) e) }

  pub file_done : length file ≤ length destination → {after : List ℕ} {r : ℕ} → Appends file destination 0 after r → Writes (file_into m n N destination g) destination after (Ok r)
  file_done l {after} {r} a = record { answer = (λ i. accepted (record { bytes = whole i; count = count i })) ∙ sym e; left = whole ∙ sym (ap (λ (v : Verdict Written). left_by (λ (w : Written). w.bytes) v destination) e) }
    where
      e : file_into m n N destination g ≡ answer true
      e = ap answer (le-leb (length file) (length destination) l)

      count : r ≡ length file
      count = omega (arith, a.end)

      whole : after ≡ file ++ drop (length file) destination
      whole = let z : 0 + length file ≡ length file = omega arith in a.bytes ∙ sets-eq file destination 0 (omega arith) ∙ ap (λ (k : ℕ). file ++ drop k destination) z

module _ {m n N s : ℕ} {t : List ℤ} where
  pub call_written : (x : Sorted) → Checking m n N s t (Ok x) → (before after : List ℕ) (r : (Result ℕ Refusal)) → Writes (of_table file_on x.table before) before after r → Writes (write_call m n N s t before) before after r
  unfolding write_call
  call_written x c before after r h = answers_on x c (λ m n N. file_into m n N before) before after r h

  pub call_stopped : (x : Refusal) → Checking m n N s t (Err x) → (before : List ℕ) → Writes (write_call m n N s t before) before before (Err x)
  unfolding write_call
  call_stopped x c before = answers_refused x c (file_into m n N before) before (Err x) refl
