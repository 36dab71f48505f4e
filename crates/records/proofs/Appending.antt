-- Appending piece by piece.
use mathlib.Core.Path.{◌≡◌, refl, sym, ap, ◌∙◌, subst}
use mathlib.Core.List.{List, [], ◌∷◌, ◌++◌, append_assoc}
use Prim.Native.Nat.{ℕ, suc, ◌+◌, ◌≤◌, ◌<◌}
use native.Mathlib.Omega.{arith}
use lib.ListN.{length, set, length-append, length-take, length-drop}
use lib.ListN.{take, drop}
use lib.Seq.{sets, length-sets, drop-drop}
use borrow.Rule.Slice.PartMut.{put_mid}
use Rattle.std.proofs.lemmas.List.Edits.{sets-eq}
use Rattle.laws.specs.Lists.{tabulate}
use Rattle.laws.proofs.Lists.{length-tabulate}
use Rattle.codec.specs.Bytes.{byte_of}
use Rattle.codec.proofs.Bytes.{byte_first}
use Rattle.records.specs.declared.put.Writer.{Writer}
use Rattle.records.specs.Appending.{RoomFor, Appends}
use Rattle.records.specs.Writing.{Puts}

sets_more : (s : List ℕ) (p : ℕ) (xs ys : List ℕ) → sets s p (xs ++ ys) ≡ sets (sets s p xs) (p + length xs) ys
sets_more s p [] ys = let e : p ≡ p + 0 = omega arith in ap (λ (i : ℕ). sets s i ys) e
sets_more s p (x ∷ xs) ys =
    let e : suc p + length xs ≡ p + suc (length xs) = omega arith in
    sets_more (set s p x) (suc p) xs ys ∙ ap (λ (i : ℕ). sets (sets (set s p x) (suc p) xs) i ys) e

pub appends_none : {s : List ℕ} {p : ℕ} → Appends [] s p s p
appends_none = record { bytes = refl; end = omega arith }

pub appends_more : {xs ys s s' s'' : List ℕ} {p q r : ℕ} → Appends xs s p s' q → Appends ys s' q s'' r → Appends (xs ++ ys) s p s'' r
appends_more {xs} {ys} {s} {p = p} a b = record {
  bytes = b.bytes ∙ (λ i. sets (a.bytes i) (a.end i) ys) ∙ sym (sets_more s p xs ys);
  end = omega (arith, a.end, b.end, length-append xs ys);
}

pub appends_same : {xs ys s s' : List ℕ} {p q : ℕ} → xs ≡ ys → Appends xs s p s' q → Appends ys s p s' q
appends_same {s = s} {s'} {p} {q} e a = subst (λ (l : List ℕ). Appends l s p s' q) e a

pub appends_length : {xs s s' : List ℕ} {p q : ℕ} → Appends xs s p s' q → length s' ≡ length s
appends_length {xs} {s} {p = p} a = ap length a.bytes ∙ length-sets s p xs

-- a part of the run that was overwritten
pub appends_part : (xs s : List ℕ) (p k : ℕ) → RoomFor xs s p → k ≡ length xs → Appends xs s p (put_mid p k s xs) (p + length xs)
appends_part xs s p k room e = record {
  bytes =
      let d : drop k (drop p s) ≡ drop (p + length xs) s = drop-drop k p s ∙ ap (λ (i : ℕ). drop i s) (omega (arith, e)) in
      ap (λ (l : List ℕ). take p s ++ (xs ++ l)) d ∙ sym (append_assoc (take p s) xs (drop (p + length xs) s)) ∙ sym (sets-eq xs s p room);
  end = refl;
}

-- w bytes that were written as f says
pub appends_bytes : (s : List ℕ) (p w k : ℕ) (f : ℕ → ℕ) (part : List ℕ) → p + w ≤ length s → k ≡ w → part ≡ tabulate (length (take k (drop p s))) f → Appends (tabulate w f) s p (put_mid p k s part) (p + w)
appends_bytes s p w k f part h q e =
    let long : length (take k (drop p s)) ≡ w = simp (length-take, length-drop) (omega arith) in
    let is : part ≡ tabulate w f = e ∙ ap (λ (n : ℕ). tabulate n f) long in
    let size : length (tabulate w f) ≡ w = length-tabulate f w in
    let a = appends_part (tabulate w f) s p k (omega arith) (q ∙ sym size) in
    record { bytes = ap (put_mid p k s) is ∙ a.bytes; end = omega (arith, size) }

-- ---- writers

pub puts_more : {xs ys : List ℕ} {a b c : Writer} → Puts xs a b → Puts ys b c → Puts (xs ++ ys) a c
puts_more p q = record {
  same_run = q.same_run ∙ p.same_run;
  same_len = q.same_len ∙ p.same_len;
  appends = appends_more p.appends q.appends;
}

pub puts_same : {xs ys : List ℕ} {a b : Writer} → xs ≡ ys → Puts xs a b → Puts ys a b
puts_same e p = record { same_run = p.same_run; same_len = p.same_len; appends = appends_same e p.appends }

pub puts_by : {xs : List ℕ} {a b : Writer} → b.out.ghost_name ≡ a.out.ghost_name → Appends xs a.out.now a.at b.out.now b.at → Puts xs a b
puts_by e w = record { same_run = e; same_len = appends_length w; appends = w }

-- what a run holds that was lent to a writer
pub appends_by : {xs s after : List ℕ} {a w : Writer} → Puts xs a w → a.out.now ≡ s → a.at ≡ 0 → after ≡ w.out.now → Appends xs s 0 after w.at
appends_by {xs} {w = w} p e z q = record { bytes = q ∙ p.appends.bytes ∙ (λ i. sets (e i) (z i) xs); end = omega (arith, p.appends.end, z) }

-- a number of one byte
pub byte_alone : (x : ℕ) → x < 256 → tabulate 1 (byte_of x) ≡ x ∷ []
unfolding tabulate
byte_alone x h = let e : byte_of x 0 ≡ x = byte_first x ∙ omega arith in ap (λ (y : ℕ). y ∷ []) e
