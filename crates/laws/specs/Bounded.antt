-- Tests, searches and sums over the numbers below n, and over the members of a list.
use Rattle.std.specs.Prelude.{Bool, true, false, cond, ◌&&◌, ◌||◌, List, [], ◌∷◌, ◌++◌, ℕ, zero, suc, ◌+◌, eqb, ltb}

-- f holds at every number below n
unfoldable pub every : ℕ → (ℕ → Bool) → Bool
every zero f = true
every (suc n) f = every n f && f n

-- f holds at some number below n
unfoldable pub some : ℕ → (ℕ → Bool) → Bool
some zero f = false
some (suc n) f = some n f || f n

-- the first number at which f holds; n if there is none below n
unfoldable pub first : ℕ → (ℕ → Bool) → ℕ
first zero f = zero
first (suc n) f = let k = first n f in cond (ltb k n) k (cond (f n) n (suc n))

-- f 0 + … + f (n - 1)
unfoldable pub sum : ℕ → (ℕ → ℕ) → ℕ
sum zero f = zero
sum (suc n) f = sum n f + f n

-- the numbers below n at which f holds, rising
unfoldable pub those : ℕ → (ℕ → Bool) → List ℕ
those zero f = []
those (suc n) f = let xs = those n f in cond (f n) (xs ++ (n ∷ [])) xs

-- x is in the list
unfoldable pub member : ℕ → List ℕ → Bool
member x [] = false
member x (y ∷ ys) = eqb x y || member x ys

-- f holds at every member
unfoldable pub each : List ℕ → (ℕ → Bool) → Bool
each [] f = true
each (x ∷ xs) f = f x && each xs f
