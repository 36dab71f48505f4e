-- What a writer appends.
use Rattle.std.specs.Prelude.{◌≡◌, List, ℕ, length}
use Rattle.records.specs.declared.put.Writer.{Writer}
use Rattle.records.specs.Appending.{RoomFor, Appends}

-- xs has room
abbrev pub HasRoom : List ℕ → Writer → Type 0
HasRoom xs w = RoomFor xs w.out.now w.at

-- the run of `before` has xs appended in `after`
pub record Puts (xs : List ℕ) (before after : Writer) : Type 0 where
  pub same_run : after.out.ghost_name ≡ before.out.ghost_name
  pub same_len : length after.out.now ≡ length before.out.now
  pub appends : Appends xs before.out.now before.at after.out.now after.at
