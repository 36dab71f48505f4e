use Rattle.std.proofs.Common.{◌≡◌, get_or, pos, w32, w64, to_z, of_z, ℕ, ◌+◌, ◌*◌, ℤ, arith}
use Rattle.std.proofs.lemmas.Int.{to_z-of_z}
use mathlib.Core.Path.{subst}
use Rattle.paths.specs.Arrivals.{Offered, OfferedEach}
use Rattle.paths.proofs.Offering.{one_offered}
use Rattle.paths.proofs.arrivals.offer_each.Goals as goal

pub loop-l-preserved : goal.loop-l-preserved
loop-l-preserved g c =
    let l = c.loop-l.l in
    let e : to_z w64 (of_z w64 (get_or c.args.a l (pos 0))) ≡ get_or c.args.a l (pos 0) = grind (arith, to_z-of_z) in
    one_offered c.requires.v_lt_n c.loop-l.invariant (subst (λ (z : ℤ). Offered (c.args.n * l + c.args.v) z (to_z w32 (of_z w32 c.args.cell)) c.loop-l.f c.offer.new.f) e c.offer.ensures)

pub returns : goal.returns
returns g c =
    let e : c.loop-l.l ≡ g.row.LANES = omega arith in
    let z : to_z w32 (of_z w32 c.args.cell) ≡ c.args.cell = grind (arith, to_z-of_z) in
    subst (λ (k : ℕ). OfferedEach k c.args.n c.args.v (λ l. get_or c.args.a l (pos 0)) c.args.cell c.args.f.now c.loop-l.f) e
    (subst (λ (y : ℤ). OfferedEach c.loop-l.l c.args.n c.args.v (λ l. get_or c.args.a l (pos 0)) y c.args.f.now c.loop-l.f) z c.loop-l.invariant)
