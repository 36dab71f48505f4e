-- What the order says of paths: none leads back to a vertex that stands before.
use mathlib.Core.Path.{◌≡◌, sym, subst}
use mathlib.Core.Bool.{false}
use mathlib.Core.List.{List}
use Prim.Native.Nat.{ℕ, ◌<◌}
use native.Mathlib.Omega.{arith}
use lib.Dec.{T, ltb→lt}
use Rattle.laws.proofs.Booleans.{is_false}
use Rattle.graph.specs.Delay.{Delay, present}
use Rattle.graph.specs.Graph.{Graph, longest}
use Rattle.graph.proofs.Longest.{longest-reached}
use Rattle.graph.proofs.Rank.{rise_path}
use Rattle.paths.specs.Order.{TopologicalOrder, rank_of, stands_before}
use Rattle.paths.proofs.Sorting.{order_ranked}

module _ {n : ℕ} {g : Graph} {o : List ℕ} (s : TopologicalOrder n g o) where
  pub before_rank : (a b : ℕ) → T (stands_before n o a b) → rank_of n o a < rank_of n o b
  unfolding stands_before
  before_rank a b t = ltb→lt (rank_of n o a) (rank_of n o b) t

  pub no_path_back : (a b : ℕ) → T (stands_before n o a b) → present (longest g n b a) ≡ false
  unfolding order_ranked
  no_path_back a b t = is_false (present (longest g n b a)) clash
    where
      clash : T (present (longest g n b a)) → ⊥
      clash h =
          let r = longest-reached g n b a in
          let back : rank_of n o b < rank_of n o a = rise_path (order_ranked s) b r.0 a (subst (λ (d : Delay). T (present d)) (sym r.1) h) in
          omega (arith, before_rank a b t)
