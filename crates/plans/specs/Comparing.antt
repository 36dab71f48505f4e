-- Two rows or columns of delays, compared place by place.
use Rattle.timing.specs.declared.Refusal.{Refusal}
use Rattle.std.specs.Prelude.{Err, Ok, Result, Option, None, Some, ◌≡◌, cond, List, ℕ, zero, suc, ◌<◌, T, ℤ, ◌-ℤ◌, length}
use Rattle.std.specs.Option.{ok_or}
use Rattle.laws.specs.Integers.{eq_z}
use Rattle.graph.specs.Delay.{Delay, absent, at}
use Rattle.timing.specs.Limits.{arrival_limit, fits}
use Rattle.timing.specs.Delays.{arrival_in}
use Rattle.timing.specs.declared.Refusal.TheVariants.{NoCommonDifference}

-- one more place, x and y, after places that differ by s, or of which none is joined
abbrev pub compared : Option ℤ → Delay → Delay → Result (Option ℤ) Refusal
compared s absent absent = Ok s
compared s absent (at y) = Err NoCommonDifference
compared s (at x) absent = Err NoCommonDifference
compared None (at x) (at y) = Ok (Some (y -ℤ x))
compared (Some e) (at x) (at y) = cond (eq_z (y -ℤ x) e) (Ok (Some e)) (Err NoCommonDifference)

-- the same, after a refusal too
abbrev pub compared_on : Result (Option ℤ) Refusal → Delay → Delay → Result (Option ℤ) Refusal
compared_on (Ok s) x y = compared s x y
compared_on (Err r) x y = Err r

-- what the first n places say
unfoldable pub seen : ℕ → (ℕ → Delay) → (ℕ → Delay) → Result (Option ℤ) Refusal
seen zero a b = Ok None
seen (suc n) a b = compared_on (seen n a b) (a n) (b n)

-- the difference, where a place is joined and none refuses
abbrev pub settled : Result (Option ℤ) Refusal → Result ℤ Refusal
settled (Ok s) = ok_or s NoCommonDifference
settled (Err r) = Err r

-- two lists of one length, in which every number is far from the ends of its 64 bits
pub record Comparable (xs ys : List ℤ) : Type 0 where
  pub long : length xs ≡ length ys
  pub near_x : (j : ℕ) → j < length xs → T (fits arrival_limit (arrival_in xs j))
  pub near_y : (j : ℕ) → j < length ys → T (fits arrival_limit (arrival_in ys j))
