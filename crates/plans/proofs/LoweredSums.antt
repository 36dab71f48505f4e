-- Delays with d taken off: the negated delay is a cell, and the arc v→o of delay d itself needs no exception.
use mathlib.Core.Path.{◌≡◌, ap, ◌∙◌}
use mathlib.Core.Bool.{◌||◌}
use Prim.Native.Nat.{ℕ}
use native.Mathlib.Decide.{ℕ_discrete}
use lib.Dec.{T, eqb}
use lib.IntN.{ℤ, neg_ℤ, ◌+ℤ◌}
use mir.Syntax.{w32}
use mir.Val.{to_z, of_z}
use mir.Facts.{to_z-of_z}
use Rattle.laws.specs.Bounded.{every}
use Rattle.laws.proofs.Booleans.{eqb_same, eqb_other, is_true}
use Rattle.laws.proofs.Bounded.{every_same}
use Rattle.laws.proofs.Linear.{zarith, neg, sum}
use Rattle.laws.proofs.Signed.{handed}
use Rattle.graph.specs.Delay.{at, ◌⊕◌}
use Rattle.graph.specs.Graph.{Graph}
use Rattle.graph.proofs.Delay.{⊕-comm}
use Rattle.timing.specs.Limits.{delay_limit, absent_cell, fits}
use Rattle.timing.specs.Table.{read_cell}
use Rattle.timing.proofs.Limits.{fits_span, span_fits, not_mark}
use Rattle.timing.proofs.Table.{read_at}
use Rattle.plans.proofs.SumCells.{delay_narrow}

pub delay_cell : (d : ℤ) → T (fits delay_limit (at d)) → read_cell absent_cell d ≡ at d
delay_cell d h = read_at absent_cell d (not_mark d h)

pub negated_fits : (d : ℤ) → T (fits delay_limit (at d)) → T (fits delay_limit (at (neg_ℤ d)))
negated_fits d h = let s = fits_span delay_limit (at d) h in let a = s.0 in let b = s.1 in span_fits delay_limit (at (neg_ℤ d)) (omega (zarith, neg d), omega (zarith, neg d))

-- what `negated` gives, as a number and as a cell
pub negated_is : (d : ℤ) {r : ℤ} → T (fits delay_limit (at d)) → r ≡ neg_ℤ (to_z w32 (of_z w32 d)) → to_z w32 (of_z w32 r) ≡ neg_ℤ d
negated_is d h e = handed w32 (e ∙ ap neg_ℤ (to_z-of_z (delay_narrow d h))) (delay_narrow (neg_ℤ d) (negated_fits d h))

pub negated_cell : (d : ℤ) {r : ℤ} → T (fits delay_limit (at d)) → r ≡ neg_ℤ (to_z w32 (of_z w32 d)) → read_cell absent_cell (to_z w32 (of_z w32 r)) ≡ at (neg_ℤ d)
negated_cell d h e = ap (read_cell absent_cell) (negated_is d h e) ∙ delay_cell (neg_ℤ d) (negated_fits d h)

nothing_left : (d : ℤ) → T (fits delay_limit (at (neg_ℤ d) ⊕ at d))
nothing_left d = span_fits delay_limit (at (neg_ℤ d +ℤ d)) (omega (zarith, neg d, sum (neg_ℤ d) d), omega (zarith, neg d, sum (neg_ℤ d) d))

pub lowered_same : (N : ℕ) (g : Graph) (v o : ℕ) (d : ℤ) → g v o ≡ at d
    → every N (λ t. fits delay_limit (at (neg_ℤ d) ⊕ g v t)) ≡ every N (λ t. eqb t o || fits delay_limit (g v t ⊕ at (neg_ℤ d)))
lowered_same N g v o d e = every_same N _ _ (λ t _. go t (ℕ_discrete t o))
  where
    go : (t : ℕ) → Dec (t ≡ o) → fits delay_limit (at (neg_ℤ d) ⊕ g v t) ≡ (eqb t o || fits delay_limit (g v t ⊕ at (neg_ℤ d)))
    go t (yes q) = rw (q, eqb_same o, e) (is_true _ (nothing_left d))
    go t (no q) = rw (eqb_other t o q) (ap (fits delay_limit) (⊕-comm (at (neg_ℤ d)) (g v t)))
