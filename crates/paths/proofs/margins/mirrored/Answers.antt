use Rattle.std.proofs.Common.{ap, ◌∙◌, pos, ◌-ℤ◌, ℤ, w64}
use Rattle.std.proofs.lemmas.Int.{to_z-of_z}
use mir.Facts.{sfits_lit}
use Rattle.laws.proofs.Signed.{handed, same_bits, other_bits}
use Rattle.timing.specs.Limits.{absent_wide}
use Rattle.paths.proofs.MarginCells.{mirror_absent, mirror_there, mirror-fits}
use Rattle.paths.proofs.margins.mirrored.Goals as goal

pub returns-then-x-eq-ABSENT_WIDE : goal.returns-then-x-eq-ABSENT_WIDE
returns-then-x-eq-ABSENT_WIDE c = to_z-of_z w64 c.args.x c.ranges.x ∙ mirror_absent c.args.x (same_bits {w = w64} {b = absent_wide} c.ranges.x (sfits_lit tt) c.if-x-eq-ABSENT_WIDE.true)

pub returns : goal.returns
returns c =
    let ne = other_bits w64 c.if-x-eq-ABSENT_WIDE.false in
    handed w64 (ap (λ (z : ℤ). pos 0 -ℤ z) (to_z-of_z w64 c.args.x c.ranges.x)) (mirror-fits c.args.x ne c.requires) ∙ mirror_there c.args.x ne
