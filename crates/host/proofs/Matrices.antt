-- The matrix over copied cells is the matrix over the whole runs, and its cells put into the bytes are the run's bytes afterwards.
use Rattle.std.specs.Prelude.{Err, Ok, Result}
use mathlib.Core.Path.{◌≡◌, refl, sym, ap, ◌∙◌}
use mathlib.Core.Bool.{Bool, true, false}
use mathlib.Core.List.{List, ◌++◌}
use Prim.Native.Nat.{ℕ, ◌*◌, ◌≤◌}
use native.Mathlib.Nat.{mul_comm}
use native.Mathlib.Omega.{arith}
use lib.Dec.{T, leb, leb→le}
use lib.IntN.{ℤ, pos, neg_ℤ}
use lib.ListN.{length, drop}
use Rattle.laws.proofs.Lists.{length-rows}
use Rattle.graph.specs.Graph.{Graph}
use Rattle.timing.specs.declared.Refusal.{Refusal}
use Rattle.timing.specs.declared.Refusal.TheVariants.{DestinationShort}
use Rattle.timing.specs.Refusal.{number, Verdict, refused, accepted, require, ◌then◌}
use Rattle.timing.specs.Checks.{checked}
use Rattle.timing.specs.Delays.{matrix_cells}
use Rattle.timing.specs.Queries.{matrix_into, matrix_call}
use Rattle.timing.proofs.Checks.{checked_accepted}
use Rattle.paths.specs.Queries.{query_meaning, Fills}
use Rattle.codec.proofs.Places.{AreBytes}
use Rattle.host.specs.Runs.{whole_cells, cells_of, with_cells}
use Rattle.host.specs.Shown.{shown, pairs_shown}
use Rattle.host.specs.Answers.{matrix_answer, matrix_bytes}
use Rattle.host.proofs.Kept.{length-cells, new_cells}
use Rattle.host.proofs.Shown.{shown_is, shown_enough, Small, small, checked_same, checked-room, lent_on, Copy}

pub length-matrix : (m n N : ℕ) (g : Graph) → length (matrix_cells m n N g) ≡ m * n
unfolding matrix_cells
length-matrix m n N g = length-rows n _ m ∙ mul_comm n m

-- v' looks to C as v does, over the bytes of a matrix
record Seen (bytes : List ℕ) (v' v : Verdict (List ℤ)) : Type 0 where
  answer : matrix_answer v' ≡ matrix_answer v
  after : matrix_bytes v' bytes ≡ matrix_bytes v bytes

module _ (m n N s : ℕ) (table : List ℕ) (t' : List ℤ) (copy : Copy N table t') (bytes : List ℕ) (are : AreBytes bytes) (d' : List ℤ) (long : length d' ≡ pairs_shown m n (whole_cells 8 bytes)) where
  abbrev own : List ℤ
  own = cells_of 8 bytes

  into : Small m n N → (g : Graph) → Seen bytes (matrix_into m n N d' g) (matrix_into m n N own g)
  unfolding matrix_into
  into h g = of (leb (m * n) (length d')) (leb (m * n) (length own)) same (leb→le (m * n) (length own))
    where
      new : List ℤ
      new = matrix_cells m n N g

      all : length d' ≡ shown m n (whole_cells 8 bytes)
      all = omega (arith, long, shown_is m n (whole_cells 8 bytes) h.inputs h.outputs, h.pairs)

      same : leb (m * n) (length d') ≡ leb (m * n) (length own)
      same = ap (leb (m * n)) (all ∙ ap (shown m n) (sym (length-cells 8 bytes))) ∙ shown_enough m n (length own) h.inputs h.outputs

      of : (b' b : Bool) → b' ≡ b → (T b → m * n ≤ length own) → Seen bytes (require b' DestinationShort (accepted (new ++ drop (m * n) d'))) (require b DestinationShort (accepted (new ++ drop (m * n) own)))
      of true true e k = record {
        answer = refl;
        after = new_cells 8 bytes are (omega arith) new d' (m * n) (length-matrix m n N g)
            (omega (arith, all, shown_is m n (whole_cells 8 bytes) h.inputs h.outputs)) (omega (arith, k tt, length-cells 8 bytes));
      }
      of false false e k = record { answer = refl; after = refl }
      of true false e k = absurd (let z : ◌≡◌ {A = ℕ} 0 1 = cc in omega arith)
      of false true e k = absurd (let z : ◌≡◌ {A = ℕ} 0 1 = cc in omega arith)

  seen : Seen bytes (matrix_call m n N s t' d') (matrix_call m n N s (cells_of 4 table) own)
  unfolding matrix_call
  seen = rw (checked_same m n N s t' (cells_of 4 table) copy.front copy.long) (of (checked m n N s (cells_of 4 table)) refl)
    where
      of : (v : Verdict Graph) → checked m n N s (cells_of 4 table) ≡ v → Seen bytes (v then matrix_into m n N d') (v then matrix_into m n N own)
      of (refused r) e = record { answer = refl; after = refl }
      of (accepted g) e = into (small m n N (checked_accepted m n N s (cells_of 4 table) g e).good.sizes) g

-- the matrix over copies: it left `after`, and answered r
pub record Over (m n N s : ℕ) (table bytes : List ℕ) (t' d' after : List ℤ) (r : Result (Unit {0}) Refusal) : Type 0 where
  pub are : AreBytes bytes
  pub copy : Copy N table t'
  pub long : length d' ≡ pairs_shown m n (whole_cells 8 bytes)
  pub call : Fills (matrix_call m n N s t' d') d' after r

module _ {m n N s : ℕ} {table bytes : List ℕ} {t' d' after : List ℤ} {r : Result (Unit {0}) Refusal} (o : Over m n N s table bytes t' d' after r) where
  abbrev verdict : Verdict (List ℤ)
  verdict = matrix_call m n N s (cells_of 4 table) (cells_of 8 bytes)

  -- what the call said, once its answer is known to be x
  said : (x : Result (Unit {0}) Refusal) → r ≡ x → Seen bytes (query_meaning x after) verdict
  said x e = rw (ap (λ (y : Result (Unit {0}) Refusal). query_meaning y after) (sym e) ∙ o.call.answer) (seen m n N s table t' o.copy bytes o.are d' o.long)

  pub done : r ≡ Ok tt → (put : List ℕ) → put ≡ with_cells 8 after bytes → (pos 0 ≡ matrix_answer verdict) × (put ≡ matrix_bytes verdict bytes)
  done e put p = let h = said (Ok tt) e in (h.answer, p ∙ h.after)

  pub refuses : (x : Refusal) → r ≡ Err x → (neg_ℤ (pos (number x)) ≡ matrix_answer verdict) × (bytes ≡ matrix_bytes verdict bytes)
  refuses x e = let h = said (Err x) e in (h.answer, h.after)

pub matrix-room : (m n N s : ℕ) (t d : List ℤ) → matrix_call m n N (lent_on s) t d ≡ matrix_call m n N s t d
unfolding matrix_call
matrix-room m n N s t d = ap (λ (v : Verdict Graph). v then matrix_into m n N d) (checked-room m n N s t)
