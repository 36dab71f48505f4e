-- The two ends of an arc's record: what the code asks of them first, and what follows.
use mathlib.Core.Path.{◌≡◌, refl, sym, ap, ◌∙◌, subst}
use mathlib.Core.Bool.{Bool, true, false, ◌&&◌}
use mathlib.Core.List.{List}
use Prim.Native.Nat.{ℕ, ◌+◌, ◌≤◌, ◌<◌}
use lib.Dec.{leb, ltb, leb→le, ltb→lt}
use lib.ListN.{length}
use Rattle.laws.proofs.Booleans.{and_e}
use Rattle.graph.specs.Delay.{at}
use Rattle.timing.specs.declared.Refusal.TheVariants.{FileEnds, WrongField}
use Rattle.timing.specs.Limits.{delay_limit, fits}
use Rattle.timing.specs.Refusal.{Verdict, accepted, require, ◌then◌}
use Rattle.timing.proofs.Verdict.{require_accepted, same_accepted}
use Rattle.codec.specs.Bytes.{unsigned_at, signed_at}
use Rattle.format.specs.declared.Mark.TheVariants as M
use Rattle.format.specs.declared.Record.{Record}
use Rattle.format.specs.declared.Record.TheVariants as R
use Rattle.format.specs.Records.{byte_at, from, to, body}
use Rattle.records.specs.Records.{ends_of, count_of}

then_more : {A B : Type 0} (b c : Bool) (a : A) (f : A → Verdict B) {v : Verdict A} → require b FileEnds (require c WrongField (accepted a)) ≡ v → require b FileEnds (require c WrongField (f a)) ≡ (v then f)
then_more false c a f e = ap (λ x. x then f) e
then_more true false a f e = ap (λ x. x then f) e
then_more true true a f e = ap (λ x. x then f) e

-- the record of a count
pub count_is : {A : Type 0} (f : ℕ → A) (s : List ℕ) (p : ℕ) {v : Verdict ℕ} → v ≡ count_of s p → require (leb (p + 4) (length s)) FileEnds (accepted (f (unsigned_at 2 s (p + 2)))) ≡ (v then λ k. accepted (f k))
count_is f s p e = go (leb (p + 4) (length s)) ∙ ap (λ v. v then λ k. accepted (f k)) (sym e)
  where
    go : (b : Bool) → require b FileEnds (accepted (f (unsigned_at 2 s (p + 2)))) ≡ (require b FileEnds (accepted (unsigned_at 2 s (p + 2))) then λ k. accepted (f k))
    go true = refl
    go false = refl

both_fields : {A : Type 0} (c d : Bool) (x : Verdict A) → require (c && d) WrongField x ≡ require c WrongField (require d WrongField x)
both_fields false d x = refl
both_fields true d x = refl

module _ (N : ℕ) (s : List ℕ) (p : ℕ) where
  abbrev both : Bool
  both = ltb (from N s p) N && ltb (to N s p) N

  pub ends_legal : (size u v : ℕ) → ends_of N s p size ≡ accepted (u, v) → (p + size ≤ length s) × (u < N) × (v < N)
  unfolding ends_of
  ends_legal size u v e =
      let whole = require_accepted (leb (p + size) (length s)) FileEnds _ (u, v) e in
      let fields = require_accepted both WrongField _ (u, v) whole.1 in
      let b = and_e (ltb (from N s p) N) (ltb (to N s p) N) fields.0 in
      let l = subst (λ (x : ℕ × ℕ). (x.0 < N) × (x.1 < N)) (same_accepted fields.1) (ltb→lt (from N s p) N b.0, ltb→lt (to N s p) N b.1) in
      (leb→le (p + size) (length s) whole.0, l.0, l.1)

  -- what follows in each record, and the record from what is known of its ends
  abbrev pub arc_after : ℕ × ℕ → Verdict Record
  arc_after e = let d = signed_at 4 s (p + 4) in require (fits delay_limit (at d)) WrongField (accepted (R.Arc e.0 e.1 d))

  pub arc_is : {v : Verdict (ℕ × ℕ)} → ends_of N s p 8 ≡ v → body N s p M.Arc ≡ (v then arc_after)
  unfolding ends_of
  arc_is e =
      ap (require (leb (p + 8) (length s)) FileEnds) (both_fields both (fits delay_limit (at (signed_at 4 s (p + 4)))) _)
      ∙ then_more (leb (p + 8) (length s)) both (from N s p, to N s p) arc_after e

  abbrev pub cell_after : ℕ × ℕ → Verdict Record
  cell_after e = accepted (R.Cell e.0 e.1 (byte_at s (p + 4)))

  pub cell_is : {v : Verdict (ℕ × ℕ)} → ends_of N s p 5 ≡ v → body N s p M.Cell ≡ (v then cell_after)
  unfolding ends_of
  cell_is e = then_more (leb (p + 5) (length s)) both (from N s p, to N s p) cell_after e
