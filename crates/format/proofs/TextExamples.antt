-- Numbers and lines as text, by computation.
use mathlib.Core.Path.{◌≡◌, refl}
use mathlib.Core.List.{[], ◌∷◌}
use lib.IntN.{negsuc}
use Rattle.laws.specs.Bounded.{first}
use Rattle.format.specs.Text.{digits, digits_of, decimal, signed_decimal, words, refused_line}

zero_digit : decimal 0 ≡ (48 ∷ [])
unfolding digits digits_of first
zero_digit = refl

-- 1000000000
most-digits : decimal 1000000000 ≡ (49 ∷ 48 ∷ 48 ∷ 48 ∷ 48 ∷ 48 ∷ 48 ∷ 48 ∷ 48 ∷ 48 ∷ [])
unfolding digits digits_of first
most-digits = refl

-- -10
minus : signed_decimal (negsuc 9) ≡ (45 ∷ 49 ∷ 48 ∷ [])
unfolding digits digits_of first
minus = refl

-- refused 15 at 0
empty_file : refused_line 15 0 ≡ (114 ∷ 101 ∷ 102 ∷ 117 ∷ 115 ∷ 101 ∷ 100 ∷ 32 ∷ 49 ∷ 53 ∷ 32 ∷ 97 ∷ 116 ∷ 32 ∷ 48 ∷ 10 ∷ [])
unfolding digits digits_of first words
empty_file = refl
