-- A record that was accepted is legal.
use mathlib.Core.Path.{◌≡◌, refl, ◌∙◌, subst}
use mathlib.Core.Bool.{◌&&◌}
use mathlib.Core.List.{List}
use Prim.Native.Nat.{ℕ, ◌+◌, ◌<◌}
use native.Mathlib.Omega.{arith}
use lib.Dec.{T, leb, ltb, leb→le, ltb→lt}
use lib.IntN.{ℤ}
use lib.ListN.{length}
use Rattle.laws.proofs.Booleans.{and_e}
use Rattle.graph.specs.Delay.{at}
use Rattle.timing.specs.declared.Refusal.TheVariants.{FileEnds, WrongField, WrongLibrary}
use Rattle.timing.specs.Limits.{delay_limit, fits}
use Rattle.timing.specs.Refusal.{accepted}
use Rattle.timing.proofs.Verdict.{require_accepted, then_accepted, same_accepted}
use Rattle.codec.specs.Bytes.{signed_at}
use Rattle.format.specs.declared.Mark.{Mark}
use Rattle.format.specs.declared.Mark.TheVariants as M
use Rattle.format.specs.declared.Record.{Record}
use Rattle.format.specs.declared.Record.TheVariants as R
use Rattle.format.specs.declared.Entry.{Entry}
use Rattle.format.specs.Library.{library_cells, ticks_fit, ticks_in}
use Rattle.format.specs.Records.{mark_at, from, to, body, record_at, LegalRecord, known}
use Rattle.format.specs.Reading.{known_at}
use Rattle.format.specs.LibraryFile.{code, ticks, entry_body, entry_at, LegalEntry}

module _ (N : ℕ) (s : List ℕ) (p : ℕ) where
  ends_below : T (ltb (from N s p) N && ltb (to N s p) N) → (from N s p < N) × (to N s p < N)
  ends_below t = let b = and_e (ltb (from N s p) N) (ltb (to N s p) N) t in (ltb→lt (from N s p) N b.0, ltb→lt (to N s p) N b.1)

  legal_body : (k : Mark) (r : Record) → body N s p k ≡ accepted r → LegalRecord N s p r
  legal_body M.Board r e = absurd (let z : ◌≡◌ {A = ℕ} 0 1 = cc in omega arith)
  legal_body M.Arc r e =
      let both = ltb (from N s p) N && ltb (to N s p) N in
      let d = fits delay_limit (at (signed_at 4 s (p + 4))) in
      let whole = require_accepted (leb (p + 8) (length s)) FileEnds _ r e in
      let fields = require_accepted (both && d) WrongField _ r whole.1 in
      let b = and_e both d fields.0 in
      let ends = ends_below b.0 in
      subst (LegalRecord N s p) (same_accepted fields.1) (leb→le (p + 8) (length s) whole.0, ends.0, ends.1, b.1, refl)
  legal_body M.Cell r e =
      let whole = require_accepted (leb (p + 5) (length s)) FileEnds _ r e in
      let fields = require_accepted (ltb (from N s p) N && ltb (to N s p) N) WrongField _ r whole.1 in
      let ends = ends_below fields.0 in
      subst (LegalRecord N s p) (same_accepted fields.1) (leb→le (p + 5) (length s) whole.0, ends.0, ends.1, refl)
  legal_body M.End r e =
      let whole = require_accepted (leb (p + 4) (length s)) FileEnds _ r e in
      subst (LegalRecord N s p) (same_accepted whole.1) (leb→le (p + 4) (length s) whole.0)
  legal_body M.Library r e = absurd (let z : ◌≡◌ {A = ℕ} 0 1 = cc in omega arith)
  legal_body M.Other r e = absurd (let z : ◌≡◌ {A = ℕ} 0 1 = cc in omega arith)

  pub legal : (r : Record) → record_at N s p ≡ accepted r → LegalRecord N s p r
  unfolding record_at
  legal r e = legal_body (mark_at s p) r (require_accepted (leb (p + 2) (length s)) FileEnds (body N s p (mark_at s p)) r e).1

-- the library only refuses
known_same : (l : List ℤ) (x r : Record) → known l x ≡ accepted r → accepted x ≡ accepted r
known_same l (R.Arc u v d) r e = e
known_same l (R.Cell u v c) r e = (then_accepted (ticks_in l c) _ r e).2
known_same l (R.End n) r e = e

pub stands : (l : List ℤ) (N : ℕ) (s : List ℕ) (p : ℕ) (r : Record) → known_at l N s p ≡ accepted r → record_at N s p ≡ accepted r
stands l N s p r e = let k = then_accepted (record_at N s p) (known l) r e in k.1 ∙ known_same l k.0 r k.2

-- ---- a library's

module _ (s : List ℕ) (p : ℕ) where
  legal_entry_body : (k : Mark) (r : Entry) → entry_body s p k ≡ accepted r → LegalEntry s p r
  legal_entry_body M.Board r e = absurd (let z : ◌≡◌ {A = ℕ} 0 1 = cc in omega arith)
  legal_entry_body M.Arc r e = absurd (let z : ◌≡◌ {A = ℕ} 0 1 = cc in omega arith)
  legal_entry_body M.Cell r e = absurd (let z : ◌≡◌ {A = ℕ} 0 1 = cc in omega arith)
  legal_entry_body M.End r e =
      let whole = require_accepted (leb (p + 4) (length s)) FileEnds _ r e in
      subst (LegalEntry s p) (same_accepted whole.1) (leb→le (p + 4) (length s) whole.0)
  legal_entry_body M.Library r e =
      let whole = require_accepted (leb (p + 7) (length s)) FileEnds _ r e in
      let low = require_accepted (ltb (code s p) library_cells) WrongField _ r whole.1 in
      let fit = require_accepted (ticks_fit (ticks s p)) WrongLibrary _ r low.1 in
      subst (LegalEntry s p) (same_accepted fit.1) (leb→le (p + 7) (length s) whole.0, ltb→lt (code s p) library_cells low.0, fit.0)
  legal_entry_body M.Other r e = absurd (let z : ◌≡◌ {A = ℕ} 0 1 = cc in omega arith)

  pub legal_entry : (r : Entry) → entry_at s p ≡ accepted r → LegalEntry s p r
  unfolding entry_at
  legal_entry r e = legal_entry_body (mark_at s p) r (require_accepted (leb (p + 2) (length s)) FileEnds (entry_body s p (mark_at s p)) r e).1
