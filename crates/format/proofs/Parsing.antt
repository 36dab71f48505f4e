-- The records of a file that was written, read again.
use mathlib.Core.Path.{◌≡◌, refl, sym, ap, ◌∙◌, subst}
use mathlib.Core.Bool.{true}
use mathlib.Core.List.{List, [], ◌∷◌, ◌++◌}
use Prim.Native.Nat.{ℕ, zero, suc, ◌+◌, ◌*◌, ◌^◌, ◌≤◌, ◌<◌}
use native.Mathlib.Omega.{arith}
use borrow.Author.Tests.{lt-ltb, le-leb, eq-eqb}
use lib.Dec.{T, leb, le→leb, lt→ltb}
use lib.IntN.{ℤ, pos, negsuc}
use lib.ListN.{length, get_or, length-append, get_or-append}
use lib.Seq.{get_or-append-add}
use Rattle.laws.specs.Lists.{tabulate}
use Rattle.laws.proofs.Booleans.{T_true}
use Rattle.laws.proofs.Lists.{length-tabulate, get_d_tabulate}
use Rattle.laws.proofs.Linear.{zarith, neg}
use Rattle.graph.specs.Delay.{at}
use Rattle.graph.specs.Graph.{Graph}
use Rattle.timing.specs.Limits.{delay_limit, fits}
use Rattle.timing.specs.Refusal.{accepted}
use Rattle.timing.proofs.Limits.{fits_bounds}
use Rattle.codec.specs.Bytes.{byte_of, twos, pattern, in_width, unsigned_at, signed_at}
use Rattle.codec.proofs.Bytes.{number_same, number_of_bytes}
use Rattle.codec.proofs.Patterns.{pattern-below, twos-pattern}
use Rattle.format.specs.declared.Record.TheVariants as R
use Rattle.format.specs.Records.{mark_at, record_at}
use Rattle.format.specs.Arcs.{Arc}
use Rattle.format.specs.Reading.{got, records_from, worked_from, board_shape, known_at, with_arc, with_record}
use Rattle.format.specs.Writing.{arc_record, end_record, arc_records}
use Rattle.format.proofs.Rising.{Rising, place_all}

-- ---- bytes

delay_width : (d : ℤ) → T (fits delay_limit (at d)) → T (in_width 4 d)
unfolding in_width
delay_width (pos n) h = let b = (fits_bounds delay_limit (pos n) h).1 in lt→ltb (2 * n) (256 ^ 4) (omega (zarith, b))
delay_width (negsuc n) h = let b = (fits_bounds delay_limit (negsuc n) h).0 in le→leb (2 * suc n) (256 ^ 4) (omega (zarith, b, neg (pos delay_limit)))

module _ (s pre xs : List ℕ) (e : s ≡ pre ++ xs) where
  byte_at : (i : ℕ) → get_or s (length pre + i) 0 ≡ get_or xs i 0
  byte_at i = ap (λ (l : List ℕ). get_or l (length pre + i) 0) e ∙ get_or-append-add pre xs i 0

  byte_first : get_or s (length pre) 0 ≡ get_or xs 0 0
  byte_first = let q : length pre ≡ length pre + 0 = omega arith in ap (λ (k : ℕ). get_or s k 0) q ∙ byte_at 0

  size_is : length s ≡ length pre + length xs
  size_is = ap length e ∙ length-append pre xs

  -- a number that was written there from place p on
  number_at : (p w x : ℕ) → ((i : ℕ) → i < w → get_or xs (p + i) 0 ≡ byte_of x i) → x < 256 ^ w → unsigned_at w s (length pre + p) ≡ x
  number_at p w x h l =
      number_same w (λ i. get_or s (length pre + p + i) 0) (byte_of x)
      (λ i k. let q : length pre + p + i ≡ length pre + (p + i) = omega arith in ap (λ (j : ℕ). get_or s j 0) q ∙ byte_at (p + i) ∙ h i k)
      ∙ number_of_bytes w x l

-- the bytes of a number, and what follows
tail_byte : (w x : ℕ) (rest : List ℕ) (i : ℕ) → i < w → get_or (tabulate w (byte_of x) ++ rest) i 0 ≡ byte_of x i
tail_byte w x rest i l = get_or-append (tabulate w (byte_of x)) rest 0 i (subst (λ (k : ℕ). i < k) (sym (length-tabulate (byte_of x) w)) l) ∙ get_d_tabulate (byte_of x) w i 0 l

-- ---- records

record_length : (a : Arc) (rest : List ℕ) → length (arc_record a ++ rest) ≡ 8 + length rest
record_length a rest = simp (length-append, length-tabulate) (omega arith)

module _ (N : ℕ) (s pre : List ℕ) where
  abbrev p : ℕ
  p = length pre

  arc_read : (a : Arc) (rest : List ℕ) → s ≡ pre ++ (arc_record a ++ rest) → a.from < N → a.to < N → T (fits delay_limit (at a.delay)) → record_at N s p ≡ accepted (R.Arc a.from a.to a.delay)
  unfolding record_at mark_at
  arc_read a rest e hu hv hd = simp (b0, b1, b2, b3, d0, long 2 (omega arith), long 8 (omega arith), lt-ltb a.from N hu, lt-ltb a.to N hv, T_true {b = fits delay_limit (at a.delay)} hd)
    where
      xs : List ℕ
      xs = arc_record a ++ rest

      long : (k : ℕ) → k ≤ 8 → leb (p + k) (length s) ≡ true
      long k l = le-leb (p + k) (length s) (omega (arith, l, size_is s pre (arc_record a ++ rest) e, record_length a rest))

      b0 : get_or s p 0 ≡ 65
      b0 = byte_first s pre (arc_record a ++ rest) e

      b1 : get_or s (p + 1) 0 ≡ 82
      b1 = byte_at s pre (arc_record a ++ rest) e 1

      b2 : get_or s (p + 2) 0 ≡ a.from
      b2 = byte_at s pre (arc_record a ++ rest) e 2

      b3 : get_or s (p + 3) 0 ≡ a.to
      b3 = byte_at s pre (arc_record a ++ rest) e 3

      d0 : signed_at 4 s (p + 4) ≡ a.delay
      d0 = ap (twos 4) (number_at s pre (arc_record a ++ rest) e 4 4 (pattern 4 a.delay) (λ i l. let q : 4 + i ≡ suc (suc (suc (suc i))) = omega arith in ap (λ (j : ℕ). get_or (arc_record a ++ rest) j 0) q ∙ tail_byte 4 (pattern 4 a.delay) rest i l) (pattern-below 4 a.delay (delay_width a.delay hd))) ∙ twos-pattern 4 a.delay (delay_width a.delay hd)

  end_read : (n : ℕ) → s ≡ pre ++ end_record n → n < 256 ^ 2 → (record_at N s p ≡ accepted (R.End n)) × (length s ≡ p + 4)
  unfolding record_at mark_at
  end_read n e l = (simp (b0, b1, d0, long 2 (omega arith), long 4 (omega arith)), size)
    where
      size : length s ≡ p + 4
      size = size_is s pre (end_record n) e ∙ simp length-tabulate

      long : (k : ℕ) → k ≤ 4 → leb (p + k) (length s) ≡ true
      long k h = le-leb (p + k) (length s) (omega (arith, h, size))

      b0 : get_or s p 0 ≡ 69
      b0 = byte_first s pre (end_record n) e

      b1 : get_or s (p + 1) 0 ≡ 78
      b1 = byte_at s pre (end_record n) e 1

      d0 : unsigned_at 2 s (p + 2) ≡ n
      d0 = number_at s pre (end_record n) e 2 2 n (λ i h. let q : 2 + i ≡ suc (suc i) = omega arith in ap (λ (j : ℕ). get_or (end_record n) j 0) q ∙ get_d_tabulate (byte_of n) 2 i 0 h) l

-- ---- a file's records

append_assoc : (xs ys zs : List ℕ) → xs ++ (ys ++ zs) ≡ (xs ++ ys) ++ zs
append_assoc [] ys zs = refl
append_assoc (x ∷ xs) ys zs = ap (λ (l : List ℕ). x ∷ l) (append_assoc xs ys zs)

module _ (N : ℕ) (s : List ℕ) (total : ℕ) (few : total < 256 ^ 2) where
  -- what is left of the file after pre: the arcs as'
  abbrev Left : List ℕ → List Arc → Type 0
  Left pre as' = s ≡ pre ++ (arc_records as' ++ end_record total)

  -- after one more arc
  onward : (pre : List ℕ) (a : Arc) (as' : List Arc) → Left pre (a ∷ as') → Left (pre ++ arc_record a) as' × (length (pre ++ arc_record a) ≡ length pre + 8)
  unfolding arc_records
  onward pre a as' e = (
    e ∙ ap (λ (l : List ℕ). pre ++ l) (sym (append_assoc (arc_record a) (arc_records as') (end_record total))) ∙ append_assoc pre (arc_record a) (arc_records as' ++ end_record total),
    length-append pre (arc_record a) ∙ simp length-tabulate,
  )

  here : (pre : List ℕ) (a : Arc) (as' : List Arc) → Left pre (a ∷ as') → s ≡ pre ++ (arc_record a ++ (arc_records as' ++ end_record total))
  unfolding arc_records
  here pre a as' e = e ∙ ap (λ (l : List ℕ). pre ++ l) (sym (append_assoc (arc_record a) (arc_records as') (end_record total)))

  -- an AR needs no library
  pub records_read : (l : List ℤ) (as' : List Arc) (pre : List ℕ) (low count turns : ℕ) → Left pre as' → Rising N low as' → count + length as' ≡ total → length as' < turns → records_from (board_shape N) turns (known_at l N s) s (length pre) low count ≡ got tt
  unfolding records_from arc_records
  records_read lib as' pre low count zero e h c l = absurd (omega arith)
  records_read lib [] pre low count (suc turns) e h c l =
      let r = end_read N s pre total e few in
      simp (r.0, eq-eqb total count (omega (arith, c)), eq-eqb (length pre + 4) (length s) (sym r.1))
  records_read lib (a ∷ as') pre low count (suc turns) e h c l =
      let r = arc_read N s pre a (arc_records as' ++ end_record total) (here pre a as' e) h.0 h.1 h.2 in
      let k = onward pre a as' e in
      simp (r, le-leb low (N * a.from + a.to) h.3)
      (ap (λ (q : ℕ). records_from (board_shape N) turns (known_at lib N s) s q (suc (N * a.from + a.to)) (suc count)) (sym k.1) ∙ records_read lib as' (pre ++ arc_record a) (suc (N * a.from + a.to)) (suc count) turns k.0 h.4 (omega (arith, c)) (omega (arith, l)))

  -- and has its own delay, whatever the library and the loads
  pub arcs_read_lem : (l : List ℤ) (load : ℕ → ℕ) (as' : List Arc) (pre : List ℕ) (low turns : ℕ) (g : Graph) → Left pre as' → Rising N low as' → length as' < turns → worked_from (board_shape N) (with_record l load) turns (record_at N s) (length pre) g ≡ place_all as' g
  unfolding worked_from arc_records
  arcs_read_lem lib load as' pre low zero g e h l = absurd (omega arith)
  arcs_read_lem lib load [] pre low (suc turns) g e h l = simp (end_read N s pre total e few).0
  arcs_read_lem lib load (a ∷ as') pre low (suc turns) g e h l =
      let r = arc_read N s pre a (arc_records as' ++ end_record total) (here pre a as' e) h.0 h.1 h.2 in
      let k = onward pre a as' e in
      simp r
      (ap (λ (q : ℕ). worked_from (board_shape N) (with_record lib load) turns (record_at N s) q (with_arc a.from a.to (at a.delay) g)) (sym k.1) ∙ arcs_read_lem lib load as' (pre ++ arc_record a) (suc (N * a.from + a.to)) turns (with_arc a.from a.to (at a.delay) g) k.0 h.4 (omega (arith, l)))
