-- Sets of numbers below 128.
use Rattle.std.specs.Prelude.{Bool, cond, ◌&&◌, List, ℕ, ◌-◌, ltb, get_or}
use Rattle.sets.specs.declared.Set.{Set}
use Rattle.sets.specs.Words.{odd}

-- members lie below this
abbrev pub room : ℕ
room = 128

-- u is a member
unfoldable pub holds : Set → ℕ → Bool
holds s u = cond (ltb u 64) (odd s.low u) (ltb u room && odd s.high (u - 64))

-- the set at place u of a list, which has none past its end
abbrev pub set_at : List Set → ℕ → Set
set_at sets u = get_or sets u (record { low = 0; high = 0 })
