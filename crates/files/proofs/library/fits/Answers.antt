use Rattle.std.proofs.Common.{◌≡◌, refl, ap, ◌∙◌, length, ℕ, pos}
use Rattle.std.proofs.lemmas.Bool.{eq-eqb, ne_eqb}
use Rattle.laws.specs.Bounded.{every}
use Rattle.laws.proofs.Bounded.{every_same}
use Rattle.graph.specs.Delay.{Delay, absent, at}
use Rattle.format.specs.Library.{library_cells, ticks_limit, absent_or_fits, library_fits}
use Rattle.paths.specs.Cells.{cell_at, between}
use Rattle.files.proofs.library.fits.Goals as goal

pub returns-then-library-ne-CODES : goal.returns-then-library-ne-CODES
unfolding library_fits
returns-then-library-ne-CODES c = simp (ne_eqb (length c.args.library.now) library_cells c.if-library-ne-CODES.true)

same : (d : Delay) → between (pos 0) (pos ticks_limit) d ≡ absent_or_fits d
same absent = refl
same (at z) = refl

pub returns : goal.returns
unfolding library_fits
returns c =
    let l = c.args.library.now in
    let e : length l ≡ library_cells = c.if-library-ne-CODES.false in
    simp (eq-eqb (length l) library_cells e)
    (c.row_within.ensures ∙ ap (λ (n : ℕ). every n (λ v. between (pos 0) (pos ticks_limit) (cell_at l v))) e ∙ every_same library_cells _ _ (λ i k. same (cell_at l i)))
