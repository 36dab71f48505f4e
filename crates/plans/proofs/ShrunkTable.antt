-- The rows of a table with k shrunk: what `shrink_row` asks of a row and leaves of it.
use mathlib.Core.Path.{◌≡◌, ◌∙◌}
use mathlib.Core.List.{List}
use Prim.Native.Nat.{ℕ, ◌*◌, ◌<◌}
use native.Mathlib.Omega.{arith}
use lib.Dec.{T}
use lib.IntN.{ℤ}
use lib.ListN.{length, take, drop}
use Rattle.laws.specs.Bounded.{every}
use Rattle.laws.specs.Lists.{tabulate}
use Rattle.laws.proofs.Bounded.{every_at, every_all}
use Rattle.laws.proofs.Lists.{tabulate_same}
use Rattle.graph.specs.Delay.{◌⊕◌}
use Rattle.timing.specs.Limits.{delay_limit, fits}
use Rattle.timing.specs.Table.{graph_of}
use Rattle.reduction.specs.Shrink.{shrunk}
use Rattle.paths.specs.Cells.{cell_at}
use Rattle.plans.specs.ShrunkRow.{shrunk_cell, Shrinkable}
use Rattle.plans.specs.Rewritten.{new_cell, Copied}
use Rattle.plans.proofs.CopiedRow.{row_size, lent_at}

-- x is row u
module _ {N : ℕ} {t via : List ℤ} {k : ℕ} (c : Copied N t via k) (u : ℕ) (l : u < N) (x : List ℤ) (e : x ≡ take N (drop (N * u) t)) where
  pub row_shrinkable : T (every N (λ u. every N (λ v. fits delay_limit (graph_of N t u k ⊕ graph_of N t k v)))) → Shrinkable x via k
  row_shrinkable h = record { few = omega (arith, row_size c u l x e, c.few); inside = omega (arith, row_size c u l x e, c.inside); legal = rw (row_size c u l x e) legal }
    where
      sums : T (every N (λ v. fits delay_limit (graph_of N t u k ⊕ graph_of N t k v)))
      sums = every_at N (λ u. every N (λ v. fits delay_limit (graph_of N t u k ⊕ graph_of N t k v))) h u l

      legal : T (every N (λ v. fits delay_limit (cell_at x k ⊕ cell_at via v)))
      legal = every_all N _ (λ v b. rw (lent_at c u l x e k c.inside, c.same v b) (every_at N (λ v. fits delay_limit (graph_of N t u k ⊕ graph_of N t k v)) sums v b))

  pub row_shrunk : {ys : List ℤ} → ys ≡ tabulate (length x) (shrunk_cell x via k u) → ys ≡ tabulate N (new_cell (shrunk k (graph_of N t)) u)
  unfolding shrunk
  row_shrunk q =
      q ∙ rw (row_size c u l x e) (tabulate_same N (shrunk_cell x via k u) (new_cell (shrunk k (graph_of N t)) u) (λ v b. simp (lent_at c u l x e v b, lent_at c u l x e k c.inside, c.same v b)))
