-- Lists given by what stands at each place.
use Rattle.std.specs.Prelude.{List, [], ◌∷◌, ◌++◌, ℕ, zero, suc}

-- f 0, f 1, …, f (n - 1)
unfoldable pub tabulate {ℓ} : {A : Type ℓ} → ℕ → (ℕ → A) → List A
tabulate zero f = []
tabulate (suc n) f = tabulate n f ++ (f n ∷ [])

-- the first r rows, of n cells each: f u v at column v of row u
unfoldable pub rows {ℓ} : {A : Type ℓ} → ℕ → ℕ → (ℕ → ℕ → A) → List A
rows n zero f = []
rows n (suc r) f = rows n r f ++ tabulate n (f r)
