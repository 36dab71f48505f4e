-- The definitions, by computation.
use mathlib.Core.Path.{◌≡◌, refl}
use mathlib.Core.Bool.{false}
use mathlib.Core.List.{[], ◌∷◌}
use lib.IntN.{pos, negsuc}
use Rattle.codec.specs.Bytes.{number_of, twos, pattern, in_width, unsigned_at, signed_at, with_number}

low_first : unsigned_at 2 (9 ∷ 1 ∷ 2 ∷ []) 1 ≡ 513
unfolding number_of
low_first = refl

minus_one : signed_at 4 (255 ∷ 255 ∷ 255 ∷ 255 ∷ []) 0 ≡ negsuc 0
unfolding number_of twos
minus_one = refl

least : signed_at 4 (0 ∷ 0 ∷ 0 ∷ 128 ∷ []) 0 ≡ negsuc 2147483647
unfolding number_of twos
least = refl

only_these : with_number 2 (9 ∷ 9 ∷ 9 ∷ 9 ∷ []) 1 (pattern 2 (negsuc 2)) ≡ 9 ∷ 253 ∷ 255 ∷ 9 ∷ []
unfolding with_number pattern
only_these = refl

too_great : in_width 4 (pos 2147483648) ≡ false
unfolding in_width
too_great = refl
