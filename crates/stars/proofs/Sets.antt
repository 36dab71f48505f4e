-- Sets of vertices below N: how many there are, and sums over them; what is asked of members alone.
use mathlib.Core.Path.{◌≡◌, refl, ap, ap₂, ◌∙◌, subst}
use mathlib.Core.Bool.{Bool, true, false, not, cond, ◌&&◌, ◌||◌}
use mathlib.Core.List.{List, [], ◌∷◌}
use Prim.Native.Nat.{ℕ, ◌+◌, ◌*◌, ◌≤◌, ◌<◌}
use native.Mathlib.Omega.{arith}
use lib.Dec.{T, T_not, eqb, ltb, ltb→lt}
use lib.IntN.{ℤ}
use lib.ListN.{length}
use Rattle.laws.specs.Bounded.{sum, each, member}
use Rattle.laws.proofs.Booleans.{T_true, and_e, or_l, or_r, eq→eqb, eqb_other}
use Rattle.laws.proofs.Sums.{sum_zero, sum_pick, sum_bound}
use Rattle.laws.proofs.Update.{update, update_other, update_elim}
use Rattle.graph.specs.Delay.{Delay, ◌⋒◌, least, present}
use Rattle.timing.specs.Table.{graph_of}
use Rattle.paths.specs.Cells.{cell_at, row_at}
use Rattle.paths.proofs.Rows.{row_at_cell, length-row_at}
use Rattle.reduction.specs.Star.{distinct}
use Rattle.stars.specs.Members.{sum_over}
use Rattle.stars.specs.StarReady.{below, VertexSet}
use Rattle.stars.proofs.Members.{below-member, below_wider}

-- a set of vertices below a number is one below a greater number
pub set_wider : (m n : ℕ) (xs : List ℕ) → m ≤ n → VertexSet m xs → VertexSet n xs
set_wider m n xs h s = record { under = below_wider m n xs h s.under; some = s.some; apart = s.apart }

-- ---- functions that agree on the members

module _ (x : ℕ) (xs : List ℕ) where
  pub member_head : T (member x (x ∷ xs))
  unfolding member
  member_head = or_l (eqb x x) (member x xs) (eq→eqb x x refl)

  pub member_tail : (y : ℕ) → T (member y xs) → T (member y (x ∷ xs))
  unfolding member
  member_tail y t = or_r (eqb y x) (member y xs) t

pub each_same : (xs : List ℕ) (f g : ℕ → Bool) → ((x : ℕ) → T (member x xs) → f x ≡ g x) → each xs f ≡ each xs g
unfolding each
each_same [] f g h = refl
each_same (x ∷ xs) f g h = ap₂ ◌&&◌ (h x (member_head x xs)) (each_same xs f g (λ y t. h y (member_tail x xs y t)))

pub sum_over_same : (xs : List ℕ) (f g : ℕ → ℕ) → ((x : ℕ) → T (member x xs) → f x ≡ g x) → sum_over xs f ≡ sum_over xs g
unfolding sum_over
sum_over_same [] f g h = refl
sum_over_same (x ∷ xs) f g h = ap₂ ◌+◌ (h x (member_head x xs)) (sum_over_same xs f g (λ y t. h y (member_tail x xs y t)))

pub least_same : (xs : List ℕ) (f g : ℕ → Delay) → ((x : ℕ) → T (member x xs) → f x ≡ g x) → least xs f ≡ least xs g
unfolding least
least_same [] f g h = refl
least_same (x ∷ []) f g h = h x (member_head x [])
least_same (x ∷ y ∷ ys) f g h = ap₂ ◌⋒◌ (h x (member_head x (y ∷ ys))) (least_same (y ∷ ys) f g (λ z t. h z (member_tail x (y ∷ ys) z t)))

-- ---- sums

pub one_at_most : (b : Bool) → cond b 1 0 ≤ 1
one_at_most true = omega arith
one_at_most false = omega arith

pub sum_over_bound : (xs : List ℕ) (f : ℕ → ℕ) → ((x : ℕ) → f x ≤ 1) → sum_over xs f ≤ length xs
unfolding sum_over
sum_over_bound [] f h = omega arith
sum_over_bound (x ∷ xs) f h = omega (arith, h x, sum_over_bound xs f h)

sum_over_ones : (xs : List ℕ) → sum_over xs (λ _. 1) ≡ length xs
unfolding sum_over
sum_over_ones [] = refl
sum_over_ones (x ∷ xs) = omega (arith, sum_over_ones xs)

-- a sum over all vertices, where only members count
pub sum_members : (N : ℕ) (xs : List ℕ) (f : ℕ → ℕ) → T (below N xs) → T (distinct xs) → ((u : ℕ) → member u xs ≡ false → f u ≡ 0) → sum N f ≡ sum_over xs f
unfolding sum_over below each member
sum_members N [] f b d z = sum_zero N f (λ u _. z u refl)
sum_members N (x ∷ xs) f b d z =
    let p = and_e (ltb x N) (below N xs) b in
    let q = and_e (not (member x xs)) (distinct xs) d in
    sum_pick N f x (ltb→lt x N p.0)
    ∙ ap (λ (k : ℕ). f x + k) (sum_members N xs (update f x 0) p.1 q.1 (λ u m. update_elim f x 0 (λ (v y : ℕ). y ≡ 0) refl u (λ n. z u (ap₂ ◌||◌ (eqb_other u x n) m)))
    ∙ sum_over_same xs (update f x 0) f (λ u m. update_other f x 0 u (λ e. T_not (member x xs) q.0 (subst (λ (v : ℕ). T (member v xs)) e m))))

pub set-size : (N : ℕ) (xs : List ℕ) → T (below N xs) → T (distinct xs) → length xs ≤ N
set-size N xs b d =
    omega (
      arith,
      sum_over_ones xs,
      sum_over_same xs (λ u. cond (member u xs) 1 0) (λ _. 1) (λ u m. ap (λ (t : Bool). cond t 1 0) (T_true {b = member u xs} m)),
      sum_members N xs (λ u. cond (member u xs) 1 0) b d (λ u m. ap (λ (t : Bool). cond t 1 0) m),
      sum_bound N (λ u. cond (member u xs) 1 0) (λ u. one_at_most (member u xs)),
    )

-- row is the row of u in a table
module _ (N : ℕ) (t : List ℤ) (u : ℕ) (row : List ℤ) (is : row ≡ row_at N u t) (l : u < N) where
  pub row_cells : (v : ℕ) → v < N → cell_at row v ≡ graph_of N t u v
  row_cells v h = ap (λ (r : List ℤ). cell_at r v) is ∙ row_at_cell N t u v l h

  module _ (ts : List ℕ) (b : T (below N ts)) where
    pub row_wide : N * N ≤ length t → T (below (length row) ts)
    row_wide room = below_wider N (length row) ts (omega (arith, ap length is ∙ length-row_at N t u room l)) b

    pub joined_row : each ts (λ v. present (cell_at row v)) ≡ each ts (λ v. present (graph_of N t u v))
    joined_row = each_same ts _ _ (λ v m. ap present (row_cells v (below-member N ts b v m)))
