-- Tests and choices on ℤ that compute.
use Rattle.std.specs.Prelude.{Bool, not, cond, ◌&&◌, ℤ}
use Rattle.std.specs.Int.Signed.{lt_z}

-- equal, as a test (`ℤ_discrete` of `lib.IntN` does not compute outside its file)
abbrev pub eq_z : ℤ → ℤ → Bool
eq_z a b = not (lt_z a b) && not (lt_z b a)

-- the greater of two
unfoldable pub max_z : ℤ → ℤ → ℤ
max_z a b = cond (lt_z a b) b a

-- the lesser of two
unfoldable pub min_z : ℤ → ℤ → ℤ
min_z a b = cond (lt_z b a) b a
