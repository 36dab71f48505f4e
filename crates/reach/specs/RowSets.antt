-- A graph's rows as sets.
use Rattle.std.specs.Prelude.{◌≡◌, cond, ◌&&◌, ◌||◌, List, ℕ, ◌≤◌, ◌<◌, T, ltb, eqb, ℤ, length}
use Rattle.graph.specs.Delay.{present}
use Rattle.graph.specs.Graph.{Graph}
use Rattle.paths.specs.Cells.{cell_at}
use Rattle.sets.specs.declared.Set.{Set}
use Rattle.sets.specs.Sets.{holds, set_at}

-- s has the vertices to which an arc leads from u
abbrev pub Targets : Graph → ℕ → Set → Type 0
Targets g u s = (v : ℕ) → holds s v ≡ present (g u v)

-- set u has the targets of u
pub record RowSets (N : ℕ) (g : Graph) (sets : List Set) : Type 0 where
  pub long : N ≤ length sets
  pub row : (u : ℕ) → u < N → Targets g u (set_at sets u)

-- and no arc leads from or to a vertex past N
pub record Rowed (N : ℕ) (g : Graph) (sets : List Set) : Type 0 where
  pub rows : RowSets N g sets
  pub inside : (u v : ℕ) → T (present (g u v)) → (u < N) × (v < N)

-- b is in set a, in no other, and all else is as it was
pub record OneSource (N a b : ℕ) (before after : List Set) : Type 0 where
  pub long : length after ≡ length before
  pub rows : (u v : ℕ) → u < N → holds (set_at after u) v ≡ cond (eqb v b) (eqb u a) (holds (set_at before u) v)

-- u is added to set v where a cell v, below c, of its row has an arc, and all else is as it was
pub record Added (u : ℕ) (row : List ℤ) (c : ℕ) (before after : List Set) : Type 0 where
  pub long : length after ≡ length before
  pub sets : (v x : ℕ) → holds (set_at after v) x ≡ (holds (set_at before v) x || (eqb x u && ltb v c && present (cell_at row v)))
