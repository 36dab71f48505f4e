use Rattle.std.proofs.Common.{◌≡◌, ℤ, length, get_or, pos, w64, to_z, of_z, FitsSigned, sym, arith, rules}
use Rattle.std.proofs.lemmas.Int.{to_z-of_z}
use mathlib.Core.Path.{subst}
use mir.Facts.{sfits_lit}
use Rattle.laws.proofs.Signed.{same_bits, other_bits}
use Rattle.timing.specs.Limits.{absent_wide}
use Rattle.paths.specs.Arrivals.{Reached, Pushed}
use Rattle.paths.proofs.Lanes.{alone}
use Rattle.paths.proofs.Offering.{whole_pushed}
use Rattle.paths.proofs.Propagating.{reached, pushed_none}
use Rattle.paths.proofs.arrivals.push_from.Goals as goal

pub push-requires : goal.push-requires
push-requires c =
    let e : to_z w64 (of_z w64 (get_or c.args.f.now c.args.u (pos 0))) ≡ get_or c.args.f.now c.args.u (pos 0) = grind (arith, to_z-of_z) in
    (omega arith, (omega arith, (omega arith, (alone _ (subst Reached (sym e) (reached _ (other_bits w64 c.if-a.true) c.requires.near)), omega (arith, c.requires.room)))))

pub returns-then-a : goal.returns-then-a
returns-then-a c =
    let e : to_z w64 (of_z w64 (get_or c.args.f.now c.args.u (pos 0))) ≡ get_or c.args.f.now c.args.u (pos 0) = grind (arith, to_z-of_z) in
    let row = c.args.row.now.cells.now in
    subst (λ (z : ℤ). Pushed (length row) row c.args.row.now.links.now z c.args.f.now c.push.new.f) e (whole_pushed (c.push.ensures.pushed 0 (omega arith)) c.push.ensures.past)

pub returns-else-a : goal.returns-else-a
returns-else-a c =
    let f : FitsSigned w64 (get_or c.args.f.now c.args.u (pos 0)) = search rules in
    pushed_none _ _ _ _ _ (same_bits {w = w64} {b = absent_wide} f (sfits_lit tt) c.if-a.false)
