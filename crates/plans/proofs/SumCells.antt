-- Delays in cells of the code: their sum, and the larger of two.
use mathlib.Core.Path.{◌≡◌, refl, sym, ap, ap₂, ◌∙◌, subst}
use mathlib.Core.Bool.{Bool, true, false, ◌&&◌}
use Prim.Native.Nat.{ℕ}
use lib.Dec.{T}
use lib.IntN.{ℤ, pos, neg_ℤ, ◌+ℤ◌, ◌-ℤ◌}
use lib.Signed.{le_z, lt_z, ◌≤ℤ◌}
use mir.Syntax.{w32, w64}
use mir.Val.{SFits}
use Rattle.laws.specs.Integers.{max_z}
use Rattle.laws.proofs.Booleans.{cases, is_true, is_false, true_is}
use Rattle.laws.proofs.Linear.{zarith, zneeds, sum, dif}
use Rattle.laws.proofs.Signed.{less_yes, less_no}
use Rattle.graph.specs.Delay.{Delay, absent, at, present, ◌⋓◌, ◌⊕◌}
use Rattle.graph.proofs.Delay.{⊕-absent}
use Rattle.timing.specs.Limits.{delay_limit, absent_cell, fits}
use Rattle.timing.specs.Table.{read_cell, write_cell}
use Rattle.timing.proofs.Limits.{fits_bounds}
use Rattle.timing.proofs.Table.{read_absent, read_at, written_read}
use Rattle.paths.specs.Cells.{between}
use Rattle.paths.proofs.ReadCells.{absent_cell_lem, arc_cell}

-- an absent cell holds the mark
pub mark_of : (z : ℤ) → present (read_cell absent_cell z) ≡ false → z ≡ absent_cell
mark_of z e = sym (written_read absent_cell z) ∙ ap (write_cell absent_cell) (absent_cell_lem z e)

-- ---- the sum

pub sum_widens : {a b : ℤ} → SFits w32 a → SFits w32 b → SFits w64 (a +ℤ b)
sum_widens {a} {b} f g = omega (zneeds, sum a b)

pub sum_absent_l : (a b : ℤ) → present (read_cell absent_cell a) ≡ false → read_cell absent_cell a ⊕ read_cell absent_cell b ≡ absent
sum_absent_l a b e = ap (λ (d : Delay). d ⊕ read_cell absent_cell b) (absent_cell_lem a e)

pub sum_absent_r : (a b : ℤ) → present (read_cell absent_cell b) ≡ false → read_cell absent_cell a ⊕ read_cell absent_cell b ≡ absent
sum_absent_r a b e = ap (λ (d : Delay). read_cell absent_cell a ⊕ d) (absent_cell_lem b e) ∙ ⊕-absent (read_cell absent_cell a)

pub sum_at : (a b : ℤ) → present (read_cell absent_cell a) ≡ true → present (read_cell absent_cell b) ≡ true → read_cell absent_cell a ⊕ read_cell absent_cell b ≡ at (a +ℤ b)
sum_at a b e f = ap₂ ◌⊕◌ (arc_cell a e) (arc_cell b f)

-- two tests that say the same
same_le : (p q r s : ℤ) → (p ≤ℤ q → r ≤ℤ s) → (r ≤ℤ s → p ≤ℤ q) → le_z p q ≡ le_z r s
same_le p q r s f g = cases (le_z p q)
    (λ e. e ∙ sym (is_true (le_z r s) (f (record { le = true_is e })).le))
    (λ e. e ∙ sym (is_false (le_z r s) (λ t. subst T e (g (record { le = t })).le)))

-- the bounds of what may be added to a
le_moved : (x a z : ℤ) → le_z (x -ℤ a) z ≡ le_z x (a +ℤ z)
le_moved x a z = same_le (x -ℤ a) z x (a +ℤ z) (λ h. omega (zarith, dif x a, sum a z)) (λ h. omega (zarith, dif x a, sum a z))

moved_le : (a z x : ℤ) → le_z z (x -ℤ a) ≡ le_z (a +ℤ z) x
moved_le a z x = same_le z (x -ℤ a) (a +ℤ z) x (λ h. omega (zarith, dif x a, sum a z)) (λ h. omega (zarith, dif x a, sum a z))

pub between-sum : (limit : ℕ) (a : ℤ) (d : Delay) → between (neg_ℤ (pos limit) -ℤ a) (pos limit -ℤ a) d ≡ fits limit (at a ⊕ d)
between-sum limit a absent = refl
between-sum limit a (at z) = ap₂ ◌&&◌ (le_moved (neg_ℤ (pos limit)) a z) (moved_le a z (pos limit))

-- to a delay from 0 on: no sum is too low
pub upto_sum : (a z : ℤ) → pos 0 ≤ℤ a → T (fits delay_limit (at a)) → T (fits delay_limit (read_cell absent_cell z)) → le_z z (pos delay_limit -ℤ a) ≡ fits delay_limit (at a ⊕ read_cell absent_cell z)
upto_sum a z h f g = cases (present (read_cell absent_cell z)) (λ e. simp (arc_cell z e) (arc (subst (λ (d : Delay). T (fits delay_limit d)) (arc_cell z e) g))) (λ e. simp (absent_cell_lem z e) (none (mark_of z e)))
  where
    above : neg_ℤ (pos delay_limit) ≤ℤ z → neg_ℤ (pos delay_limit) ≤ℤ (a +ℤ z)
    above k = omega (zarith, sum a z)

    arc : T (fits delay_limit (at z)) → le_z z (pos delay_limit -ℤ a) ≡ (le_z (neg_ℤ (pos delay_limit)) (a +ℤ z) && le_z (a +ℤ z) (pos delay_limit))
    arc t = moved_le a z (pos delay_limit) ∙ sym (ap (λ (b : Bool). b && le_z (a +ℤ z) (pos delay_limit)) (is_true (le_z (neg_ℤ (pos delay_limit)) (a +ℤ z)) (above (fits_bounds delay_limit z t).0).le))

    least : z ≡ absent_cell → a ≤ℤ pos delay_limit → z ≤ℤ (pos delay_limit -ℤ a)
    least e k = omega (zarith, dif (pos delay_limit) a)

    none : z ≡ absent_cell → le_z z (pos delay_limit -ℤ a) ≡ true
    none e = is_true (le_z z (pos delay_limit -ℤ a)) (least e (fits_bounds delay_limit a f).1).le

-- a delay within the limits fits a cell
pub delay_narrow : (z : ℤ) → T (fits delay_limit (at z)) → SFits w32 z
delay_narrow z t = let b = fits_bounds delay_limit z t in let lo = b.0 in let hi = b.1 in omega zneeds

-- and so do the ends of what may be added to it
pub room-below : (a : ℤ) → T (fits delay_limit (at a)) → SFits w32 (neg_ℤ (pos delay_limit) -ℤ a)
room-below a t = let b = fits_bounds delay_limit a t in let lo = b.0 in let hi = b.1 in omega (zneeds, dif (neg_ℤ (pos delay_limit)) a)

pub room_above : (a : ℤ) → T (fits delay_limit (at a)) → SFits w32 (pos delay_limit -ℤ a)
room_above a t = let b = fits_bounds delay_limit a t in let lo = b.0 in let hi = b.1 in omega (zneeds, dif (pos delay_limit) a)

-- ---- the larger

mark_least : {z : ℤ} → SFits w32 z → absent_cell ≤ℤ z
mark_least f = omega zneeds

pub larger_second : (a b : ℤ) → SFits w32 a → lt_z a b ≡ true → b ≡ write_cell absent_cell (read_cell absent_cell a ⋓ read_cell absent_cell b)
unfolding max_z
larger_second a b f l = cases (present (read_cell absent_cell a))
    (λ e. simp (arc_cell a e, read_at absent_cell b above, l))
    (λ e. simp (absent_cell_lem a e, read_at absent_cell b above))
  where
    above : b ≡ absent_cell → ⊥
    above e = let m = mark_least f in let h = less_yes a b l in omega zarith

pub larger_first : (a b : ℤ) → SFits w32 b → lt_z a b ≡ false → a ≡ write_cell absent_cell (read_cell absent_cell a ⋓ read_cell absent_cell b)
unfolding max_z
larger_first a b f l = cases (present (read_cell absent_cell a))
    (λ e. cases (present (read_cell absent_cell b)) (λ q. simp (arc_cell a e, arc_cell b q, l)) (λ q. simp (arc_cell a e, absent_cell_lem b q)))
    (λ e. simp (absent_cell_lem a e, read_absent absent_cell b (below (mark_of a e))) (mark_of a e))
  where
    below : a ≡ absent_cell → b ≡ absent_cell
    below e = let m = mark_least f in let h = less_no a b l in omega zarith
