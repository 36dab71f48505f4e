-- Some arc goes exactly when fewer arcs stay.
use mathlib.Core.Path.{◌≡◌, refl, sym, ◌∙◌, subst}
use mathlib.Core.Bool.{Bool, true, false, not, cond, ◌&&◌}
use Prim.Native.Nat.{ℕ, ◌≤◌, ◌<◌}
use native.Mathlib.Omega.{arith}
use borrow.Author.Tests.{lt-ltb, le-ltb}
use lib.Dec.{T, ltb}
use Rattle.laws.specs.Bounded.{some, sum}
use Rattle.laws.proofs.Booleans.{true_is, cases}
use Rattle.laws.proofs.Bounded.{some_at, some_of}
use Rattle.laws.proofs.Sums.{sum_le, sum_eq, sum_lt}
use Rattle.graph.specs.Delay.{Delay, absent, at, present}
use Rattle.graph.specs.Graph.{Graph}
use Rattle.graph.specs.Count.{bit, fan_out, arcs}

module _ (N : ℕ) (g : Graph) (stays : ℕ → ℕ → Bool) where
  abbrev rest : Graph
  rest u v = cond (stays u v) (g u v) absent

  abbrev lost : ℕ → ℕ → Bool
  lost u v = present (g u v) && not (stays u v)

  bit_le : (d : Delay) (b : Bool) → bit (cond b d absent) ≤ bit d
  unfolding bit
  bit_le d true = omega arith
  bit_le d false = omega arith

  bit_lt : (d : Delay) (b : Bool) → T (present d && not b) → bit (cond b d absent) < bit d
  unfolding bit
  bit_lt absent b t = absurd t
  bit_lt (at z) true t = absurd t
  bit_lt (at z) false t = omega arith

  bit_same : (d : Delay) (b : Bool) → (T (present d && not b) → ⊥) → bit d ≡ bit (cond b d absent)
  unfolding bit
  bit_same d true h = refl
  bit_same absent false h = refl
  bit_same (at z) false h = absurd (h tt)

  row_le : (u : ℕ) → sum N (λ v. bit (rest u v)) ≤ sum N (λ v. bit (g u v))
  row_le u = sum_le N (λ v. bit (rest u v)) (λ v. bit (g u v)) (λ v _. bit_le (g u v) (stays u v))

  -- some arc goes if fewer arcs stay
  pub fewer : some N (λ u. some N (λ v. present (g u v) && not (stays u v))) ≡ ltb (arcs N (λ u v. cond (stays u v) (g u v) absent)) (arcs N g)
  unfolding arcs fan_out
  fewer = cases (some N (λ u. some N (lost u))) (λ e. e ∙ sym (lt-ltb _ _ (less (true_is e)))) (λ e. e ∙ sym (le-ltb _ _ (as_many e)))
    where
      less : T (some N (λ u. some N (lost u))) → sum N (λ u. sum N (λ v. bit (rest u v))) < sum N (λ u. sum N (λ v. bit (g u v)))
      less t =
          let a = some_at N (λ u. some N (lost u)) t in
          let b = some_at N (lost a.0) a.2 in
          sum_lt N (λ u. sum N (λ v. bit (rest u v))) (λ u. sum N (λ v. bit (g u v))) a.0 a.1 (λ u _. row_le u)
          (sum_lt N (λ v. bit (rest a.0 v)) (λ v. bit (g a.0 v)) b.0 b.1 (λ v _. bit_le (g a.0 v) (stays a.0 v)) (bit_lt (g a.0 b.0) (stays a.0 b.0) b.2))

      equal : some N (λ u. some N (lost u)) ≡ false → sum N (λ u. sum N (λ v. bit (g u v))) ≡ sum N (λ u. sum N (λ v. bit (rest u v)))
      equal e = sum_eq N (λ u. sum N (λ v. bit (g u v))) (λ u. sum N (λ v. bit (rest u v)))
          (λ u k. sum_eq N (λ v. bit (g u v)) (λ v. bit (rest u v)) (λ v h. bit_same (g u v) (stays u v) (λ t. subst T e (some_of N (λ u. some N (lost u)) u k (some_of N (lost u) v h t)))))

      as_many : some N (λ u. some N (lost u)) ≡ false → sum N (λ u. sum N (λ v. bit (g u v))) ≤ sum N (λ u. sum N (λ v. bit (rest u v)))
      as_many e = omega (arith, equal e)
