-- Numbers of w bytes, low byte first: unsigned, and signed in two's complement.
use Rattle.std.specs.Prelude.{Bool, cond, List, ℕ, zero, suc, ◌+◌, ◌-◌, ◌*◌, ◌/◌, ◌%◌, ◌^◌, ◌≤◌, ltb, leb, ℤ, pos, negsuc, length, get_or, set}

-- the number of the bytes f 0, f 1, …, f (w - 1)
unfoldable pub number_of : ℕ → (ℕ → ℕ) → ℕ
number_of zero f = 0
number_of (suc w) f = f 0 + 256 * number_of w (λ i. f (suc i))

-- byte i of the number x
abbrev pub byte_of : ℕ → ℕ → ℕ
byte_of x i = x / 256 ^ i % 256

-- the signed number of a pattern of w bytes
unfoldable pub twos : ℕ → ℕ → ℤ
twos w x = cond (ltb (2 * x) (256 ^ w)) (pos x) (negsuc (256 ^ w - suc x))

-- the pattern of a signed number
unfoldable pub pattern : ℕ → ℤ → ℕ
pattern w (pos n) = n
pattern w (negsuc n) = 256 ^ w - suc n

-- whether a signed number has a pattern of w bytes: twice the number is at least - 256 ^ w, and below 256 ^ w
unfoldable pub in_width : ℕ → ℤ → Bool
in_width w (pos n) = ltb (2 * n) (256 ^ w)
in_width w (negsuc n) = leb (2 * suc n) (256 ^ w)

-- the number in the w bytes of s from place p on
abbrev pub unsigned_at : ℕ → List ℕ → ℕ → ℕ
unsigned_at w s p = number_of w (λ i. get_or s (p + i) 0)

abbrev pub signed_at : ℕ → List ℕ → ℕ → ℤ
signed_at w s p = twos w (unsigned_at w s p)

-- s with the w bytes of x from place p on, and all others as they were
unfoldable pub with_number : ℕ → List ℕ → ℕ → ℕ → List ℕ
with_number zero s p x = s
with_number (suc w) s p x = set (with_number w s p x) (p + w) (byte_of x w)

-- s has room for one to eight bytes from place p on
pub record Room (s : List ℕ) (p w : ℕ) : Type 0 where
  pub some : 1 ≤ w
  pub few : w ≤ 8
  pub inside : p + w ≤ length s
