-- A sum over the members of a list.
use Rattle.std.specs.Prelude.{List, [], ◌∷◌, ℕ, zero, ◌+◌}

unfoldable pub sum_over : List ℕ → (ℕ → ℕ) → ℕ
sum_over [] f = zero
sum_over (x ∷ xs) f = f x + sum_over xs f
