-- Cells of a lent list.
use Rattle.std.specs.Prelude.{◌≡◌, Bool, Option, true, ◌&&◌, List, ℕ, ◌+◌, ◌*◌, ◌≤◌, ◌<◌, ℤ, pos, length, get_or, take, drop}
use Rattle.std.specs.Int.Signed.{le_z}
use Rattle.std.specs.Option.{MatchOption}
use Rattle.graph.specs.Delay.{Delay, absent, at}
use Rattle.graph.specs.Graph.{Graph}
use Rattle.graph.specs.Count.{bit}
use Rattle.timing.specs.Limits.{max_vertices, absent_cell}
use Rattle.timing.specs.Table.{read_cell}

-- the delay in cell x
abbrev pub cell_at : List ℤ → ℕ → Delay
cell_at t x = read_cell absent_cell (get_or t x (pos 0))

-- row u of a table whose rows have n cells
abbrev pub row_at : {A : Type 0} → ℕ → ℕ → List A → List A
row_at n u t = take n (drop (n * u) t)

-- absent, or from low to high
abbrev pub between : ℤ → ℤ → Delay → Bool
between low high absent = true
between low high (at z) = le_z low z && le_z z high

-- `times` cells, `stride` apart, lie in the table of a board
pub record InTable (t : List ℤ) (from stride times : ℕ) : Type 0 where
  pub few : times ≤ max_vertices
  pub near : stride ≤ max_vertices
  pub low : from ≤ max_vertices * max_vertices
  pub inside : (i : ℕ) → i < times → from + stride * i < length t

-- r is the first vertex from `from` on and before N with an arc to v, or N
pub record NextInto (N : ℕ) (g : Graph) (v from r : ℕ) : Type 0 where
  pub past : from ≤ r
  pub upto : r ≤ N
  pub none : (u : ℕ) → from ≤ u → u < r → bit (g u v) ≡ 0
  pub arc : r < N → bit (g r v) ≡ 1

-- the first vertex from `from` on with an arc to v, if there is one
abbrev pub FirstInto : ℕ → Graph → ℕ → ℕ → Option ℕ → Type 0
FirstInto N g v from r = MatchOption r (NextInto N g v from N) (λ u. (u < N) × NextInto N g v from u)
