-- The star's numbers as the code has them: `row` holds the cells of a source, `first` those of the first source.
use Rattle.std.specs.Prelude.{Bool, cond, ◌&&◌, List, ℕ, eqb, ℤ, pos, ◌+ℤ◌, ◌-ℤ◌, get_or}
use Rattle.laws.specs.Integers.{eq_z}
use Rattle.laws.specs.Bounded.{member}
use Rattle.graph.specs.Delay.{Delay, at, ticks, least}
use Rattle.timing.specs.Limits.{absent_cell}
use Rattle.stars.specs.Members.{sum_over}

-- the least difference over the targets
unfoldable pub least_gap : List ℤ → List ℤ → List ℕ → Delay
least_gap row first Ts = least Ts (λ t. at (get_or row t (pos 0) -ℤ get_or first t (pos 0)))

-- its ticks
abbrev pub gap : List ℤ → List ℤ → List ℕ → ℤ
gap row first Ts = ticks (least_gap row first Ts)

-- target t's arc is equal to its sum through the centre
unfoldable pub meets : List ℤ → List ℤ → ℤ → ℕ → Bool
meets row first e t = eq_z (get_or row t (pos 0)) (e +ℤ get_or first t (pos 0))

-- how many do
unfoldable pub meeting : List ℤ → List ℤ → List ℕ → ℤ → ℕ
meeting row first Ts e = sum_over Ts (λ t. cond (meets row first e t) 1 0)

-- a source's cell v without the covered arcs, when e is its least difference
unfoldable pub cleared_cell : List ℤ → List ℤ → List ℕ → ℤ → ℕ → ℤ
cleared_cell row first Ts e v = cond (member v Ts && meets row first e v) absent_cell (get_or row v (pos 0))

-- and with the arc to the centre
unfoldable pub source_cell : List ℤ → List ℤ → List ℕ → ℕ → ℤ → ℕ → ℤ
source_cell row first Ts k e v = cond (eqb v k) e (cleared_cell row first Ts e v)

-- the centre's
unfoldable pub centre_cell : List ℤ → List ℤ → List ℕ → ℕ → ℤ
centre_cell row first Ts v = cond (member v Ts) (get_or first v (pos 0)) (get_or row v (pos 0))

-- any vertex's
unfoldable pub cell_after : List ℤ → List ℤ → List ℕ → ℕ → ℕ → Bool → ℕ → ℤ
cell_after row first Ts k u source v = cond (eqb u k) (centre_cell row first Ts v) (cond source (source_cell row first Ts k (gap row first Ts) v) (get_or row v (pos 0)))
