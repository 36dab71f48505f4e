-- The rows of a table with o merged back to v: what `merge_row` asks of a row and leaves of it.
use mathlib.Core.Path.{◌≡◌, ap, ◌∙◌}
use mathlib.Core.Bool.{◌||◌}
use mathlib.Core.List.{List}
use Prim.Native.Nat.{ℕ, ◌*◌, ◌<◌}
use native.Mathlib.Decide.{ℕ_discrete}
use native.Mathlib.Omega.{arith}
use lib.Dec.{T, eqb}
use lib.IntN.{ℤ, neg_ℤ}
use lib.ListN.{length, take, drop}
use Rattle.laws.specs.Bounded.{every}
use Rattle.laws.specs.Lists.{tabulate}
use Rattle.laws.proofs.Booleans.{eqb_same, eqb_other, and_e, true_is, is_true}
use Rattle.laws.proofs.Bounded.{every_at, every_all}
use Rattle.laws.proofs.Lists.{tabulate_same}
use Rattle.graph.specs.Delay.{at, ◌⊕◌}
use Rattle.timing.specs.Limits.{delay_limit, fits}
use Rattle.timing.specs.Table.{graph_of}
use Rattle.reduction.specs.MergeBack.{merge_fits, merged_back}
use Rattle.paths.specs.Cells.{cell_at}
use Rattle.plans.specs.MergedRow.{merged_cell, Mergeable, Drives}
use Rattle.plans.proofs.LoweredSums.{lowered_same}
use Rattle.plans.specs.Rewritten.{new_cell, Copied}
use Rattle.plans.proofs.CopiedRow.{row_size, lent_at}

-- x is row u
module _ {N : ℕ} {t via : List ℤ} {v o : ℕ} {d : ℤ} (c : Copied N t via v) (a : Drives N t v o d) (u : ℕ) (l : u < N) (x : List ℤ) (e : x ≡ take N (drop (N * u) t)) where
  pub row_mergeable : T (merge_fits N (graph_of N t) v o d) → Mergeable x via v o d
  unfolding merge_fits
  row_mergeable h = record {
    few = omega (arith, row_size c u l x e, c.few);
    redirectable = record {
      from_inside = omega (arith, row_size c u l x e, a.from_below);
      to_inside = omega (arith, row_size c u l x e, a.to_below);
      legal = a.legal;
      sum_fits = rw (lent_at c u l x e v c.inside) (every_at N (λ u. fits delay_limit (graph_of N t u v ⊕ at d)) p.0 u l);
    };
    lowered_fit = rw (row_size c u l x e) lowered;
  }
    where
      p : T (every N (λ u. fits delay_limit (graph_of N t u v ⊕ at d))) × T (every N (λ w. eqb w o || fits delay_limit (graph_of N t v w ⊕ at (neg_ℤ d))))
      p = and_e (every N (λ u. fits delay_limit (graph_of N t u v ⊕ at d))) (every N (λ w. eqb w o || fits delay_limit (graph_of N t v w ⊕ at (neg_ℤ d)))) h

      differences : T (every N (λ w. fits delay_limit (at (neg_ℤ d) ⊕ graph_of N t v w)))
      differences = true_is (lowered_same N (graph_of N t) v o d a.arc ∙ is_true _ p.1)

      lowered : T (every N (λ w. fits delay_limit (at (neg_ℤ d) ⊕ cell_at via w)))
      lowered = every_all N _ (λ w b. rw (c.same w b) (every_at N (λ w. fits delay_limit (at (neg_ℤ d) ⊕ graph_of N t v w)) differences w b))

  pub row_merged : {ys : List ℤ} → ys ≡ tabulate (length x) (merged_cell x via v o d u) → ys ≡ tabulate N (new_cell (merged_back v o d (graph_of N t)) u)
  unfolding merged_back
  row_merged q =
      q ∙ rw (row_size c u l x e) (tabulate_same N (merged_cell x via v o d u) (new_cell (merged_back v o d (graph_of N t)) u) (λ w b. go w b (ℕ_discrete u o)))
    where
      go : (w : ℕ) → w < N → Dec (u ≡ o) → merged_cell x via v o d u w ≡ new_cell (merged_back v o d (graph_of N t)) u w
      go w b (yes z) = simp (
        ap (λ (y : ℕ). eqb y o) z ∙ eqb_same o,
        lent_at c u l x e w b ∙ ap (λ (y : ℕ). graph_of N t y w) z,
        lent_at c u l x e v c.inside,
        c.same w b,
      )
      go w b (no z) = simp (eqb_other u o z, lent_at c u l x e w b, lent_at c u l x e v c.inside)
