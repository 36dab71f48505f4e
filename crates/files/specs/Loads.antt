-- Loads as the code has them, a byte for each vertex.
use Rattle.std.specs.Prelude.{◌≡◌, List, ℕ, ◌*◌, ◌≤◌, ℤ, pos, get_or}
use Rattle.timing.specs.Limits.{delay_limit}

abbrev pub loads_of : List ℕ → ℕ → ℕ
loads_of l w = get_or l w 0

-- ticks that stay within the delay limit under every load that a byte can hold: 255 makes 52 times as many
pub record Loadable (d : ℤ) : Type 0 where
  pub ticks : ℕ
  pub same : d ≡ pos ticks
  pub few : 52 * ticks ≤ delay_limit
