-- Arcs into a vertex, as a search down its column finds them.
use mathlib.Core.Path.{◌≡◌, sym, ap, ◌∙◌}
use mathlib.Core.Bool.{false, not}
use Rattle.std.proofs.Common.{Option, Some, None, is_some}
use Prim.Native.Nat.{ℕ, zero, ◌+◌, ◌≤◌, ◌<◌}
use native.Mathlib.Decide.{ℕ_discrete, dec_lt}
use native.Mathlib.Omega.{arith}
use borrow.Author.Tests.{eq-eqb, ne_eqb}
use lib.Dec.{eqb}
use Rattle.laws.specs.Bounded.{first}
use Rattle.laws.proofs.Booleans.{T_true}
use Rattle.laws.proofs.Bounded.{first_found}
use Rattle.laws.proofs.Sums.{sum_zero, sum_term, sum_pick}
use Rattle.laws.proofs.Update.{update, update_same, update_other}
use Rattle.graph.specs.Delay.{present}
use Rattle.graph.specs.Graph.{Graph}
use Rattle.graph.specs.Count.{bit, fan_in}
use Rattle.graph.proofs.Presence.{present-bit, absent_bit}
use Rattle.paths.specs.Cells.{NextInto, FirstInto}

-- no arc to v from the vertices passed
abbrev pub Passed : Graph → ℕ → ℕ → ℕ → Type 0
Passed g v from u = (k : ℕ) → from ≤ k → k < u → bit (g k v) ≡ 0

module _ (g : Graph) (v from u : ℕ) (h : Passed g v from u) where
  pub passed_more : bit (g u v) ≡ 0 → Passed g v from (u + 1)
  passed_more e k a b = go (ℕ_discrete k u)
    where
      go : Dec (k ≡ u) → bit (g k v) ≡ 0
      go (yes q) = ap (λ (x : ℕ). bit (g x v)) q ∙ e
      go (no ne) = h k a (omega arith)

module _ (N : ℕ) (g : Graph) (v : ℕ) where
  abbrev into : ℕ → ℕ
  into u = bit (g u v)

  pub no_arc : NextInto N g v 0 N → fan_in N g v ≡ 0
  unfolding fan_in
  no_arc s = sum_zero N into (λ u l. s.none u (omega arith) l)

  pub an_arc : (r : ℕ) → NextInto N g v 0 r → r < N → 0 < fan_in N g v
  unfolding fan_in
  an_arc r s l = omega (arith, sum_term N into r l, s.arc l)

  module _ (p : ℕ) (s : NextInto N g v 0 p) (l : p < N) where
    -- the others
    abbrev rest : ℕ → ℕ
    rest = update into p zero

    pub one_arc : NextInto N g v (p + 1) N → fan_in N g v ≡ 1
    unfolding fan_in
    one_arc n = omega (arith, sum_pick N into p l, s.arc l, sum_zero N rest (λ u k. go u k (ℕ_discrete u p) (dec_lt u p)))
      where
        go : (u : ℕ) → u < N → Dec (u ≡ p) → Dec (u < p) → rest u ≡ 0
        go u k (yes q) _ = rw (q, update_same into p zero)
        go u k (no ne) (yes h) = update_other into p zero u ne ∙ s.none u (omega arith) h
        go u k (no ne) (no h) = update_other into p zero u ne ∙ n.none u (omega arith) k

    pub two_arcs : (r : ℕ) → NextInto N g v (p + 1) r → r < N → 1 < fan_in N g v
    unfolding fan_in
    two_arcs r n k = omega (arith, sum_pick N into p l, s.arc l, sum_term N rest r k, update_other into p zero r (λ e. absurd (omega (arith, n.past))), n.arc k)

  -- what the searches answer
  pub none_says : (r : Option ℕ) → FirstInto N g v 0 r → eqb (fan_in N g v) 0 ≡ not (is_some r)
  none_says None s = eq-eqb (fan_in N g v) 0 (no_arc s)
  none_says (Some r) s = ne_eqb (fan_in N g v) 0 (λ e. omega (arith, an_arc r s.1 s.0))

  pub not_one : NextInto N g v 0 N → eqb (fan_in N g v) 1 ≡ false
  not_one s = ne_eqb (fan_in N g v) 1 (λ e. omega (arith, no_arc s))

  pub one_says : (p : ℕ) → (p < N) × NextInto N g v 0 p → (r : Option ℕ) → FirstInto N g v (p + 1) r → eqb (fan_in N g v) 1 ≡ not (is_some r)
  one_says p s None n = eq-eqb (fan_in N g v) 1 (one_arc p s.1 s.0 n)
  one_says p s (Some r) n = ne_eqb (fan_in N g v) 1 (λ e. omega (arith, two_arcs p s.1 s.0 r n.1 n.0))

  -- from 0 on it is the first of all
  pub next_first : (r : ℕ) → r < N → NextInto N g v 0 r → r ≡ first N (λ u. present (g u v))
  next_first r l s = sym (first_found N (λ u. present (g u v)) r l off (T_true (present-bit (g r v) (omega (arith, s.arc l)))))
    where
      off : (u : ℕ) → u < r → present (g u v) ≡ false
      off u l = ap present (absent_bit (g u v) (s.none u (omega arith) l))
