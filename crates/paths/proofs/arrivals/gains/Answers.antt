use Rattle.std.proofs.Common.{◌≡◌, ◌+ℤ◌, w64, to_z, of_z, sym, arith}
use Rattle.std.specs.Int.Signed.{lt_z}
use Rattle.std.proofs.lemmas.Int.{to_z-of_z}
use mathlib.Core.Path.{subst}
use Rattle.laws.proofs.Signed.{widens}
use Rattle.paths.specs.Arrivals.{Gains}
use Rattle.paths.proofs.Later.{sum_fits, compared}
use Rattle.paths.proofs.arrivals.gains.Goals as goal

pub returns : goal.returns
returns c =
    let p = c.requires in
    let f = sum_fits c.args.a c.args.cell p.reached p.cell_fits p.cell_nonzero in
    let e : lt_z (to_z w64 (of_z w64 c.args.best)) (to_z w64 (of_z w64 (to_z w64 (of_z w64 c.args.a) +ℤ to_z w64 (of_z w64 c.from.result)))) ≡ lt_z c.args.best (c.args.a +ℤ c.args.cell) = grind (arith, to_z-of_z, widens) in
    subst (Gains c.args.best c.args.a c.args.cell) (sym e) (compared c.args.a c.args.cell p.reached p.cell_fits p.cell_nonzero c.args.best)
