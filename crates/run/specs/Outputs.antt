-- What share outputs keeps of what is known of a table.
use Rattle.std.specs.Prelude.{◌≡◌, Option, Some, List, ℕ, T}
use Rattle.paths.specs.Order.{stands_before}
use Rattle.sets.specs.declared.Set.{Set}
use Rattle.reach.specs.RowSets.{OneSource}

-- o is the order before, and a stands before b in it
abbrev pub StillSorted : ℕ → ℕ → ℕ → Option (List ℕ) → List ℕ → Type 0
StillSorted n a b before o = (before ≡ Some o) × T (stands_before n o a b)

-- the sets before, with a the one source of b
abbrev pub OneSourceOf : ℕ → ℕ → ℕ → Option (List Set) → List Set → Type 0
OneSourceOf n a b before rows = (old : List Set) × (before ≡ Some old) × OneSource n a b old rows
