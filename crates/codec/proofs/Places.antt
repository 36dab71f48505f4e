-- Numbers in lists of bytes: what is written is read, and what is read may be written.
use mathlib.Core.Path.{◌≡◌, refl, sym, ap, ◌∙◌}
use mathlib.Core.List.{List, [], ◌∷◌}
use Prim.Native.Nat.{ℕ, zero, suc, ◌+◌, ◌-◌, ◌*◌, ◌^◌, ◌≤◌, ◌<◌}
use native.Mathlib.Nat.{not-suc-le-zero, mul-le-mul_left, pow-succ'}
use native.Mathlib.Decide.{ℕ_discrete, dec_lt}
use Rattle.std.proofs.Common.{zero-add}
use native.Mathlib.Omega.{arith}
use lib.Dec.{T, leb→le}
use lib.IntN.{ℤ, pos, negsuc}
use lib.ListN.{length, get_or, set, take, drop, length-set}
use borrow.Rule.Slice.PartMut.{put_mid}
use Rattle.std.specs.Int.{w64, cast_signed, cast_unsigned, byte_at, bytes_low_first, to_le_bytes, from_le_bytes}
use Rattle.std.proofs.lemmas.Grind.{same_number_lists}
use Rattle.std.proofs.lemmas.List.{places, get_or-take}
use lib.Seq.{get_or-set_same, get_or-set_other, set-get_or}
use mir.Facts.{to_z_pos, to_z-neg}
use mir.Syntax.{w8}
use mir.Val.{Fits}
use Rattle.laws.specs.Lists.{tabulate}
use Rattle.laws.proofs.Lists.{length-tabulate, get_d_tabulate, tabulate_same, is_tabulate}
use Rattle.codec.specs.Bytes.{number_of, byte_of, twos, pattern, in_width, unsigned_at, signed_at, with_number}
use Rattle.codec.proofs.Bytes.{number_same, number_of_bytes, bytes_of_number, number-below, number_longer, number_filled, number_top, byte_first, byte_more, power_above, power_fits}
use Rattle.codec.proofs.Patterns.{twos-pattern, pattern-below, pattern-twos, twos_in_width, twos_low, twos_high}

module _ (s : List ℕ) (p x : ℕ) where
  pub length_with : (w : ℕ) → length (with_number w s p x) ≡ length s
  unfolding with_number
  length_with zero = refl
  length_with (suc w) = length-set (with_number w s p x) (p + w) (byte_of x w) ∙ length_with w

  -- what stands at a place that was not written
  pub byte_left : (w j : ℕ) → ((i : ℕ) → i < w → j ≡ p + i → ⊥) → get_or (with_number w s p x) j 0 ≡ get_or s j 0
  unfolding with_number
  byte_left zero j h = refl
  byte_left (suc w) j h = get_or-set_other (with_number w s p x) (p + w) j (byte_of x w) 0 (h w (omega arith)) ∙ byte_left w j (λ i l. h i (omega arith))

  pub byte_written : (w i : ℕ) → p + w ≤ length s → i < w → get_or (with_number w s p x) (p + i) 0 ≡ byte_of x i
  unfolding with_number
  byte_written zero i h l = absurd (not-suc-le-zero l)
  byte_written (suc w) i h l = go (ℕ_discrete i w) (byte_written w i)
    where
      go : Dec (i ≡ w) → (p + w ≤ length s → i < w → get_or (with_number w s p x) (p + i) 0 ≡ byte_of x i)
          → get_or (set (with_number w s p x) (p + w) (byte_of x w)) (p + i) 0 ≡ byte_of x i
      go (yes e) ih = simp e (get_or-set_same (with_number w s p x) (p + w) (byte_of x w) 0 (omega (arith, length_with w)))
      go (no n) ih = get_or-set_other (with_number w s p x) (p + w) (p + i) (byte_of x w) 0 (λ e. n (omega arith)) ∙ ih (omega arith) (omega arith)

  -- a number at other places
  pub read_left : (w v q : ℕ) → ((i j : ℕ) → i < w → j < v → q + j ≡ p + i → ⊥) → unsigned_at v (with_number w s p x) q ≡ unsigned_at v s q
  read_left w v q h = number_same v _ _ (λ j l. byte_left w (q + j) (λ i k. h i j k l))

  -- a number that was written is read
  pub read_written : (w : ℕ) → p + w ≤ length s → x < 256 ^ w → unsigned_at w (with_number w s p x) p ≡ x
  read_written w h b = number_same w _ (byte_of x) (λ i l. byte_written w i h l) ∙ number_of_bytes w x b

pub signed_read_written : (s : List ℕ) (p w : ℕ) (z : ℤ) → p + w ≤ length s → T (in_width w z) → signed_at w (with_number w s p (pattern w z)) p ≡ z
signed_read_written s p w z h t = ap (twos w) (read_written s p (pattern w z) w h (pattern-below w z t)) ∙ twos-pattern w z t

-- what the code knows of a list of bytes
abbrev pub AreBytes : List ℕ → Type 0
AreBytes s = (j : ℕ) → Fits w8 (get_or s j 0)

module _ (s : List ℕ) (p w : ℕ) (bytes : AreBytes s) where
  pub read_below : unsigned_at w s p < 256 ^ w
  read_below = number-below w (λ i. get_or s (p + i) 0) (λ i l. (bytes (p + i)).fits)

  pub read_in_width : T (in_width w (signed_at w s p))
  read_in_width = twos_in_width w (unsigned_at w s p) read_below

  -- a number that was read, written again
  pub written_read : with_number w s p (unsigned_at w s p) ≡ s
  unfolding with_number
  written_read = go w (bytes_of_number w (λ i. get_or s (p + i) 0) (λ i l. (bytes (p + i)).fits))
    where
      go : (v : ℕ) → ((i : ℕ) → i < v → byte_of (unsigned_at w s p) i ≡ get_or s (p + i) 0) → with_number v s p (unsigned_at w s p) ≡ s
      go zero h = refl
      go (suc v) h = (λ k. set (go v (λ i l. h i (omega arith)) k) (p + v) (h v (omega arith) k)) ∙ set-get_or s (p + v) 0

  pub signed_written_read : with_number w s p (pattern w (signed_at w s p)) ≡ s
  signed_written_read = ap (with_number w s p) (pattern-twos w (unsigned_at w s p) read_below) ∙ written_read

-- the bytes of x, as they are written into the whole of s
pub number_placed : (s : List ℕ) (x : ℕ) → tabulate (length s) (byte_of x) ≡ with_number (length s) s 0 x
number_placed s x = sym (is_tabulate 0 _ (length s) (byte_of x) (length_with s 0 x (length s)) at)
  where
    at : (i : ℕ) → i < length s → get_or (with_number (length s) s 0 x) i 0 ≡ byte_of x i
    at i l = ap (λ (j : ℕ). get_or (with_number (length s) s 0 x) j 0) (sym (zero-add i)) ∙ byte_written s 0 x (length s) i (omega arith) l

-- and into a part that s lends
pub number_in_part : (s : List ℕ) (p w x : ℕ) → p + w ≤ length s → put_mid p w s (tabulate w (byte_of x)) ≡ with_number w s p x
number_in_part s p w x h = same_number_lists _ _ (grind (arith, places, length-tabulate (byte_of x) w, length_with s p x w)) at
  where
    at : (j : ℕ) → j < length (put_mid p w s (tabulate w (byte_of x))) → get_or (put_mid p w s (tabulate w (byte_of x))) j 0 ≡ get_or (with_number w s p x) j 0
    at j l = go (dec_lt j p) (dec_lt j (p + w))
      where
        go : Dec (j < p) → Dec (j < p + w) → get_or (put_mid p w s (tabulate w (byte_of x))) j 0 ≡ get_or (with_number w s p x) j 0
        go (yes a) _ = let e = length-tabulate (byte_of x) w in grind (arith, places) ∙ sym (byte_left s p x w j (λ i k q. omega arith))
        go (no a) (yes b) =
            let q : j ≡ p + (j - p) = omega arith in
            let e = length-tabulate (byte_of x) w in
            let k : j - p < w = omega arith in
            let f : get_or (put_mid p w s (tabulate w (byte_of x))) j 0 ≡ get_or (tabulate w (byte_of x)) (j - p) 0 = grind (arith, places) in
            f ∙ get_d_tabulate (byte_of x) w (j - p) 0 k ∙ sym (byte_written s p x w (j - p) h k) ∙ ap (λ (i : ℕ). get_or (with_number w s p x) i 0) (sym q)
        go (no a) (no b) = let e = length-tabulate (byte_of x) w in grind (arith, places) ∙ sym (byte_left s p x w j (λ i k q. omega arith))

-- ---- the library's bytes of a 64-bit number

byte_at_is : (i x : ℕ) → byte_at i x ≡ byte_of x i
byte_at_is zero x = sym (byte_first x)
byte_at_is (suc i) x = refl

low_first_at : (k j x i : ℕ) → i < k → get_or (bytes_low_first j k x) i 0 ≡ byte_of x (j + i)
low_first_at zero j x i h = absurd (omega arith)
low_first_at (suc k) j x zero h = byte_at_is j x ∙ ap (byte_of x) (omega arith)
low_first_at (suc k) j x (suc i) h = low_first_at k (suc j) x i (omega arith) ∙ ap (byte_of x) (omega arith)

-- the first w bytes of x
pub first_bytes : (w x : ℕ) → w ≤ 8 → take w (to_le_bytes w64 x) ≡ tabulate w (byte_of x)
first_bytes w x h = same_number_lists _ _ (grind (arith, places, length-tabulate (byte_of x) w)) at
  where
    at : (i : ℕ) → i < length (take w (to_le_bytes w64 x)) → get_or (take w (to_le_bytes w64 x)) i 0 ≡ get_or (tabulate w (byte_of x)) i 0
    at i l =
        let m : i < w = grind (arith, places) in
        get_or-take w (to_le_bytes w64 x) i 0 m ∙ low_first_at 8 0 x i (omega arith) ∙ ap (byte_of x) (zero-add i) ∙ sym (get_d_tabulate (byte_of x) w i 0 m)

-- the bits of a signed number have its pattern's bytes
pub pattern_bytes : (w : ℕ) (z : ℤ) → w ≤ 8 → T (in_width w z) → tabulate w (byte_of (cast_unsigned w64 z)) ≡ tabulate w (byte_of (pattern w z))
unfolding pattern in_width
pattern_bytes w (pos n) h t = refl
pattern_bytes w (negsuc n) h t = tabulate_same w _ _ (λ i l. ap (λ (y : ℕ). byte_of y i) whole ∙ byte_more i w (256 ^ w - suc n) above.0 l)
  where
    above : (m : ℕ) × (256 ^ (w + (8 - w)) ≡ 256 ^ w + 256 ^ w * m)
    above = power_above w (8 - w)

    whole : 2 ^ 64 - suc n ≡ 256 ^ w - suc n + 256 ^ w * above.0
    whole =
        let q : w + (8 - w) ≡ 8 = omega arith in
        let e : 256 ^ 8 ≡ 256 ^ w + 256 ^ w * above.0 = rw q at above.1 in
        omega (arith, e, leb→le (2 * suc n) (256 ^ w) t)

-- the bytes of s, copied over the first of eight bytes b
module _ (s : List ℕ) (few : length s ≤ 8) (b : ℕ) (part : List ℕ) (e : part ≡ s) where
  abbrev all : List ℕ
  all = put_mid 0 (length s) (b ∷ b ∷ b ∷ b ∷ b ∷ b ∷ b ∷ b ∷ []) part

  long : length part ≡ length s
  long = ap length e

  eight : from_le_bytes w64 all ≡ number_of 8 (λ i. get_or all i 0)
  unfolding number_of
  eight = omega arith

  above : (i : ℕ) → length s ≤ i → i < 8 → get_or all i 0 ≡ b
  above i l m = grind (arith, places)

  past : (i : ℕ) → 8 ≤ i → get_or all i 0 ≡ 0
  past i l = grind (arith, places)

  same : (i : ℕ) → i < length s → get_or all i 0 ≡ get_or s (0 + i) 0
  same i l = grind (arith, places)

  read_first : number_of (length s) (λ i. get_or all i 0) ≡ unsigned_at (length s) s 0
  read_first = number_same (length s) _ _ same

  pub read_copied : b ≡ 0 → from_le_bytes w64 all ≡ unsigned_at (length s) s 0
  read_copied z = eight ∙ number_longer (length s) (8 - length s) 8 _ (omega arith) none ∙ read_first
    where
      none : (i : ℕ) → length s ≤ i → get_or all i 0 ≡ 0
      none i l = go (dec_lt i 8)
        where
          go : Dec (i < 8) → get_or all i 0 ≡ 0
          go (yes m) = above i l m ∙ z
          go (no m) = past i (omega arith)

  read_filled : b ≡ 255 → from_le_bytes w64 all + 256 ^ length s ≡ unsigned_at (length s) s 0 + 2 ^ 64
  read_filled z = omega (arith, eight, number_filled (length s) (8 - length s) 8 (λ i. get_or all i 0) (omega arith) (λ i l m. above i l m ∙ z), read_first)

  -- and as a signed number
  module _ (some : 1 ≤ length s) (bytes : AreBytes s) where
    top : unsigned_at (length s) s 0 ≡ unsigned_at (length s - 1) s 0 + 256 ^ (length s - 1) * get_or s (length s - 1) 0
    top =
        let q : length s ≡ suc (length s - 1) = omega arith in
        let z : 0 + (length s - 1) ≡ length s - 1 = omega arith in
        ap (λ (w : ℕ). unsigned_at w s 0) q ∙ number_top (length s - 1) (λ i. get_or s (0 + i) 0) ∙ ap (λ (i : ℕ). unsigned_at (length s - 1) s 0 + 256 ^ (length s - 1) * get_or s i 0) z

    power : 256 ^ length s ≡ 256 * 256 ^ (length s - 1)
    power = let q : length s ≡ suc (length s - 1) = omega arith in ap (λ (w : ℕ). 256 ^ w) q ∙ pow-succ' 256 (length s - 1)

    read_positive : get_or s (length s - 1) 0 < 128 → b ≡ 0 → cast_signed w64 (from_le_bytes w64 all) ≡ signed_at (length s) s 0
    read_positive h z =
        let low : 2 * unsigned_at (length s) s 0 < 256 ^ length s = omega (arith, top, power, read_below s 0 (length s - 1) bytes, mul-le-mul_left (256 ^ (length s - 1)) (let q : get_or s (length s - 1) 0 ≤ 127 = omega arith in q)) in
        ap (cast_signed w64) (read_copied z) ∙ to_z_pos w64 (omega (arith, power_fits (length s) few)) ∙ sym (twos_low (length s) _ low)

    read_negative : 128 ≤ get_or s (length s - 1) 0 → b ≡ 255 → cast_signed w64 (from_le_bytes w64 all) ≡ signed_at (length s) s 0
    read_negative h z =
        let x = unsigned_at (length s) s 0 in
        let high : 256 ^ length s ≤ 2 * x = omega (arith, top, power, mul-le-mul_left (256 ^ (length s - 1)) h) in
        let k = 256 ^ length s - suc x in
        let e : from_le_bytes w64 all ≡ 2 ^ 64 - suc k = omega (arith, read_filled z, read_below s 0 (length s) bytes, power_fits (length s) few) in
        ap (cast_signed w64) e ∙ to_z-neg w64 k (omega (arith, power_fits (length s) few)) ∙ sym (twos_high (length s) x high)

    -- b is the sign of the highest byte
    pub read_signed : (get_or s (length s - 1) 0 < 128 → b ≡ 0) → (128 ≤ get_or s (length s - 1) 0 → b ≡ 255) → cast_signed w64 (from_le_bytes w64 all) ≡ signed_at (length s) s 0
    read_signed low high = go (dec_lt (get_or s (length s - 1) 0) 128)
      where
        go : Dec (get_or s (length s - 1) 0 < 128) → cast_signed w64 (from_le_bytes w64 all) ≡ signed_at (length s) s 0
        go (yes h) = read_positive h (low h)
        go (no h) = let k : 128 ≤ get_or s (length s - 1) 0 = omega arith in read_negative k (high k)

-- ---- a number in a part of a list

pub part_unsigned : (s : List ℕ) (p w k : ℕ) → p + w ≤ length s → k ≡ w → unsigned_at (length (take k (drop p s))) (take k (drop p s)) 0 ≡ unsigned_at w s p
part_unsigned s p w k h e = ap (λ (n : ℕ). unsigned_at n (take k (drop p s)) 0) long ∙ number_same w _ _ same
  where
    long : length (take k (drop p s)) ≡ w
    long = grind (arith, places)

    same : (i : ℕ) → i < w → get_or (take k (drop p s)) (0 + i) 0 ≡ get_or s (p + i) 0
    same i l = grind (arith, places)

pub part_signed : (s : List ℕ) (p w k : ℕ) → p + w ≤ length s → k ≡ w → signed_at (length (take k (drop p s))) (take k (drop p s)) 0 ≡ signed_at w s p
part_signed s p w k h e =
    let long : length (take k (drop p s)) ≡ w = grind (arith, places) in
    (λ i. twos (long i) (part_unsigned s p w k h e i))
