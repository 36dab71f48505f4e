-- An arrival that is reached, and a delay after it: the sum fits 64 bits, is present, and is compared as delays are.
use mathlib.Core.Path.{◌≡◌, refl, sym, ap, ap₂, ◌∙◌, subst}
use mathlib.Core.List.{List}
use Prim.Native.Nat.{ℕ, ◌<◌}
use lib.ListN.{length, set}
use lib.Seq.{get_or-set_same, get_or-set_other}
use mathlib.Core.Logic.{◌≢◌}
use Rattle.std.proofs.Common.{arith}
use Rattle.std.specs.Int.{int_max}
use Rattle.std.proofs.lemmas.Int.{ints, clamps}
use Rattle.laws.proofs.Booleans.{cases}
use lib.Dec.{T}
use lib.IntN.{ℤ, pos, ◌+ℤ◌, ℤ_discrete}
use lib.Signed.{◌≤ℤ◌, ◌<ℤ◌, lt_z}
use mir.Syntax.{w64}
use mir.Val.{SFits}
use Rattle.laws.proofs.Linear.{zneeds, zarith, sum}
use Rattle.laws.proofs.Integers.{max_lt, max_ge}
use Rattle.laws.proofs.Signed.{less_yes, less_no}
use Rattle.graph.specs.Delay.{Delay, at, ◌⋓◌, ◌⊕◌}
use Rattle.graph.proofs.Span.{InSpan}
use Rattle.timing.specs.Limits.{delay_limit, absent_cell, absent_wide, fits}
use Rattle.timing.specs.Table.{read_cell}
use Rattle.timing.specs.Delays.{arrival_in}
use Rattle.timing.proofs.Limits.{fits_span}
use Rattle.timing.proofs.Table.{read_absent, read_at}
use Rattle.paths.specs.Arrivals.{reached_limit, Reached, Gains, Offered}

module _ (a d : ℤ) (r : Reached a) (fd : T (fits delay_limit (read_cell absent_cell d))) where
  module _ (nd : d ≢ absent_cell) where
    span_a : InSpan reached_limit (at a)
    span_a = fits_span reached_limit (at a) r.near

    span_d : InSpan delay_limit (at d)
    span_d = fits_span delay_limit (at d) (subst (λ (x : Delay). T (fits delay_limit x)) (read_at absent_cell d nd) fd)

    pub sum_fits : SFits w64 (a +ℤ d)
    sum_fits = omega (zneeds, sum a d, span_a, span_d)

    here : (a +ℤ d) ≢ absent_wide
    here e = omega (zarith, sum a d, span_a, span_d)

    above : (best : ℤ) → (a +ℤ d) ≤ℤ best → best ≢ absent_wide
    above best l e = omega (zarith, sum a d, span_a, span_d)

    sum_is : read_cell absent_wide a ⊕ read_cell absent_cell d ≡ at (a +ℤ d)
    sum_is = ap₂ ◌⊕◌ (read_at absent_wide a r.there) (read_at absent_cell d nd)

    pub compared : (best : ℤ) → Gains best a d (lt_z best (a +ℤ d))
    compared best = record { later = λ z. (sum_fits, more (less_yes best (a +ℤ d) z)); not_later = λ z. less (less_no best (a +ℤ d) z) }
      where
        more : best <ℤ (a +ℤ d) → read_cell absent_wide (a +ℤ d) ≡ read_cell absent_wide best ⋓ (read_cell absent_wide a ⊕ read_cell absent_cell d)
        more l = read_at absent_wide (a +ℤ d) here ∙ go (ℤ_discrete best absent_wide) ∙ sym (ap (λ (x : Delay). read_cell absent_wide best ⋓ x) sum_is)
          where
            go : Dec (best ≡ absent_wide) → at (a +ℤ d) ≡ read_cell absent_wide best ⋓ at (a +ℤ d)
            go (yes e) = rw (read_absent absent_wide best e)
            go (no ne) = rw (read_at absent_wide best ne, max_lt best (a +ℤ d) l)

        less : (a +ℤ d) ≤ℤ best → read_cell absent_wide best ≡ read_cell absent_wide best ⋓ (read_cell absent_wide a ⊕ read_cell absent_cell d)
        less l = rw (sum_is, read_at absent_wide best (above best l), max_ge best (a +ℤ d) l)

-- the later of a time and the sum, as numbers: absent is the least
pub later_is : (a d best : ℤ) → Reached a → T (fits delay_limit (read_cell absent_cell d)) → d ≢ absent_cell → read_cell absent_wide (int_max best (a +ℤ d)) ≡ read_cell absent_wide best ⋓ (read_cell absent_wide a ⊕ read_cell absent_cell d)
later_is a d best r fd nd =
    cases (lt_z best (a +ℤ d))
    (λ e. let l = less_yes best (a +ℤ d) e in let m : int_max best (a +ℤ d) ≡ a +ℤ d = omega (arith, ints, clamps) in ap (read_cell absent_wide) m ∙ ((compared a d r fd nd best).later e).1)
    (λ e. let l = less_no best (a +ℤ d) e in let m : int_max best (a +ℤ d) ≡ best = omega (arith, ints, clamps) in ap (read_cell absent_wide) m ∙ (compared a d r fd nd best).not_later e)

-- what an offer leaves
pub offered_set : (f : List ℤ) (x : ℕ) (a cell y : ℤ) → x < length f → read_cell absent_wide y ≡ arrival_in f x ⋓ (read_cell absent_wide a ⊕ read_cell absent_cell cell) → Offered x a cell f (set f x y)
offered_set f x a cell y l e = record { here = ap (read_cell absent_wide) (get_or-set_same f x y (pos 0) l) ∙ e; others = λ k ne. get_or-set_other f x k y (pos 0) ne }

pub offered_keep : (f : List ℤ) (x : ℕ) (a cell : ℤ) → arrival_in f x ≡ arrival_in f x ⋓ (read_cell absent_wide a ⊕ read_cell absent_cell cell) → Offered x a cell f f
offered_keep f x a cell e = record { here = e; others = λ k ne. refl }
