-- A vertex taken out of the sets, one after another.
use Rattle.std.proofs.Common.{◌≡◌, not, ◌&&◌, List, ℕ, ◌≤◌, ◌<◌, eqb}
use Rattle.sets.specs.declared.Set.{Set}
use Rattle.sets.specs.Sets.{holds, set_at}

-- b is taken out of the sets below u
pub record Left (b : ℕ) (before : List Set) (u : ℕ) (sets : List Set) : Type 0 where
  pub taken : (x v : ℕ) → x < u → holds (set_at sets x) v ≡ (holds (set_at before x) v && not (eqb v b))
  pub kept : (x : ℕ) → u ≤ x → set_at sets x ≡ set_at before x
