-- Cells that hold times: mirrored, subtracted, read.
use mathlib.Core.Path.{◌≡◌, sym, ap, ap₂, ◌∙◌, subst}
use mathlib.Core.Logic.{◌≢◌}
use lib.Dec.{T}
use lib.IntN.{ℤ, pos, neg_ℤ, ◌-ℤ◌}
use mir.Syntax.{w64}
use mir.Val.{SFits}
use Rattle.laws.proofs.Linear.{zarith, zneeds, neg, dif}
use Rattle.graph.specs.Delay.{Delay, at, ◌⊖◌, mirror}
use Rattle.graph.proofs.Span.{InSpan}
use Rattle.timing.specs.Limits.{absent_wide, fits}
use Rattle.timing.specs.Table.{read_cell, write_cell}
use Rattle.timing.proofs.Limits.{fits_span}
use Rattle.timing.proofs.Table.{read_absent, read_at}
use Rattle.paths.specs.Arrivals.{reached_limit}

pub there_span : (x : ℤ) → x ≢ absent_wide → T (fits reached_limit (read_cell absent_wide x)) → InSpan reached_limit (at x)
there_span x ne t = fits_span reached_limit (at x) (subst (λ (d : Delay). T (fits reached_limit d)) (read_at absent_wide x ne) t)

-- what is absent is its own mirror image
pub mirror_absent : (x : ℤ) → x ≡ absent_wide → x ≡ write_cell absent_wide (mirror (read_cell absent_wide x))
mirror_absent x e = e ∙ sym (ap (λ (d : Delay). write_cell absent_wide (mirror d)) (read_absent absent_wide x e))

module _ (x : ℤ) (ne : x ≢ absent_wide) where
  pub mirror_there : pos 0 -ℤ x ≡ write_cell absent_wide (mirror (read_cell absent_wide x))
  mirror_there =
      let z : pos 0 -ℤ x ≡ neg_ℤ x = omega (zarith, dif (pos 0) x, neg x) in
      z ∙ sym (ap (λ (d : Delay). write_cell absent_wide (mirror d)) (read_at absent_wide x ne))

  pub mirror-fits : T (fits reached_limit (read_cell absent_wide x)) → SFits w64 (pos 0 -ℤ x)
  mirror-fits t = omega (zneeds, dif (pos 0) x, there_span x ne t)

module _ (x y : ℤ) where
  pub margin_no_first : x ≡ absent_wide → absent_wide ≡ write_cell absent_wide (read_cell absent_wide x ⊖ read_cell absent_wide y)
  margin_no_first e = sym (ap (λ (d : Delay). write_cell absent_wide (d ⊖ read_cell absent_wide y)) (read_absent absent_wide x e))

  module _ (nx : x ≢ absent_wide) where
    pub margin_no_second : y ≡ absent_wide → absent_wide ≡ write_cell absent_wide (read_cell absent_wide x ⊖ read_cell absent_wide y)
    margin_no_second e = sym (ap (write_cell absent_wide) (ap₂ ◌⊖◌ (read_at absent_wide x nx) (read_absent absent_wide y e)))

    module _ (ny : y ≢ absent_wide) where
      pub margin_there : x -ℤ y ≡ write_cell absent_wide (read_cell absent_wide x ⊖ read_cell absent_wide y)
      margin_there = sym (ap (write_cell absent_wide) (ap₂ ◌⊖◌ (read_at absent_wide x nx) (read_at absent_wide y ny)))

      pub margin_fits : T (fits reached_limit (read_cell absent_wide x)) → T (fits reached_limit (read_cell absent_wide y)) → SFits w64 (x -ℤ y)
      margin_fits fx fy = omega (zneeds, dif x y, there_span x nx fx, there_span y ny fy)
