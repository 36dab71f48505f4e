-- The definitions, by computation: two cells of four bytes, and a byte that is no cell.
use mathlib.Core.Path.{◌≡◌, refl}
use mathlib.Core.List.{List, [], ◌∷◌}
use Prim.Native.Nat.{ℕ}
use lib.IntN.{pos, negsuc}
use Rattle.laws.specs.Lists.{tabulate, rows}
use Rattle.timing.specs.Refusal.{refused}
use Rattle.codec.specs.Bytes.{number_of, twos, pattern}
use Rattle.host.specs.Runs.{cells_of, with_cells}
use Rattle.host.specs.Answers.{matrix_answer, matrix_bytes}

abbrev nine : List ℕ
nine = 1 ∷ 2 ∷ 0 ∷ 0 ∷ 254 ∷ 255 ∷ 255 ∷ 255 ∷ 77 ∷ []

low_first : cells_of 4 nine ≡ pos 513 ∷ negsuc 1 ∷ []
unfolding cells_of tabulate number_of twos
low_first = refl

all_new : with_cells 4 (negsuc 2147483647 ∷ pos 7 ∷ []) nine ≡ 0 ∷ 0 ∷ 0 ∷ 128 ∷ 7 ∷ 0 ∷ 0 ∷ 0 ∷ 77 ∷ []
unfolding with_cells rows tabulate pattern
all_new = refl

one_new : with_cells 4 (negsuc 0 ∷ []) nine ≡ 255 ∷ 255 ∷ 255 ∷ 255 ∷ 254 ∷ 255 ∷ 255 ∷ 255 ∷ 77 ∷ []
unfolding with_cells rows tabulate pattern
one_new = refl

minus : matrix_answer (refused 21) ≡ negsuc 20
minus = refl

as_it_was : matrix_bytes (refused 21) nine ≡ nine
as_it_was = refl
