-- Cell codes that have no ticks.
use mathlib.Core.Path.{◌≡◌}
use Prim.Native.Nat.{ℕ, ◌≤◌}
use borrow.Author.Tests.{le-ltb}
use Rattle.timing.specs.declared.Refusal.TheVariants.{WrongField}
use Rattle.timing.specs.Refusal.{number, refused}
use Rattle.format.specs.Library.{cell_ticks, ticks_of}

pub no_ticks_lem : (c : ℕ) → 5 ≤ c → refused (number WrongField) ≡ ticks_of c
unfolding cell_ticks ticks_of
no_ticks_lem c h = simp (le-ltb c 5 h)
