-- Delays: absent, or a number of ticks.
use Rattle.std.specs.Prelude.{Bool, true, false, List, [], ◌∷◌, ℕ, zero, suc, ℤ, pos, neg_ℤ, ◌+ℤ◌, ◌-ℤ◌, ◌≤ℤ◌}
use Rattle.laws.specs.Integers.{eq_z, max_z, min_z}

pub data Delay : Type 0 where
  absent : Delay
  at : ℤ → Delay

abbrev pub present : Delay → Bool
present absent = false
present (at a) = true

-- the number of a delay that is present
abbrev pub ticks : Delay → ℤ
ticks absent = pos 0
ticks (at a) = a

-- no delay at all: 0 ticks
abbrev pub immediate : Delay
immediate = at (pos 0)

infixl 60 ◌⋓◌ ◌⋒◌ ◌⋏◌
infixl 70 ◌⊕◌ ◌⊖◌
-- the greater of two; absent is below every number
abbrev pub ◌⋓◌ : Delay → Delay → Delay
absent ⋓ y = y
at a ⋓ absent = at a
at a ⋓ at b = at (max_z a b)

-- the sum; absent where a part is
abbrev pub ◌⊕◌ : Delay → Delay → Delay
absent ⊕ y = absent
at a ⊕ absent = absent
at a ⊕ at b = at (a +ℤ b)

-- the difference; absent where a part is
abbrev pub ◌⊖◌ : Delay → Delay → Delay
absent ⊖ y = absent
at a ⊖ absent = absent
at a ⊖ at b = at (a -ℤ b)

-- the lesser of two numbers; absent where one is absent
abbrev pub ◌⋒◌ : Delay → Delay → Delay
absent ⋒ y = absent
at a ⋒ absent = absent
at a ⋒ at b = at (min_z a b)

-- the lesser of two; absent is above every number
abbrev pub ◌⋏◌ : Delay → Delay → Delay
absent ⋏ y = y
at a ⋏ absent = at a
at a ⋏ at b = at (min_z a b)

-- the mirror image: the number negated
abbrev pub mirror : Delay → Delay
mirror absent = absent
mirror (at a) = at (neg_ℤ a)

-- equal, as a test
abbrev pub eq_d : Delay → Delay → Bool
eq_d absent absent = true
eq_d absent (at b) = false
eq_d (at a) absent = false
eq_d (at a) (at b) = eq_z a b

-- the order that ⋓ is the greater of
abbrev pub AtMost : Delay → Delay → Type 0
AtMost absent y = Unit {0}
AtMost (at a) absent = ⊥
AtMost (at a) (at b) = a ≤ℤ b

infix 50 ◌⊑◌
pub record ◌⊑◌ (x y : Delay) : Type 0 where
  pub le : AtMost x y

-- the greatest of f 0, …, f (n - 1); absent where none is present
unfoldable pub greatest : ℕ → (ℕ → Delay) → Delay
greatest zero f = absent
greatest (suc n) f = greatest n f ⋓ f n

-- the smallest of f 0, …, f (n - 1) that are present; absent where none is
unfoldable pub smallest : ℕ → (ℕ → Delay) → Delay
smallest zero f = absent
smallest (suc n) f = smallest n f ⋏ f n

-- the least of f over the members of a list
unfoldable pub least : List ℕ → (ℕ → Delay) → Delay
least [] f = absent
least (x ∷ []) f = f x
least (x ∷ y ∷ ys) f = f x ⋒ least (y ∷ ys) f
