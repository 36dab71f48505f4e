use Rattle.std.proofs.Common.{ap₂, sym, ◌∙◌, ◌-ℤ◌, w64, FitsSigned}
use Rattle.std.proofs.lemmas.Int.{to_z-of_z}
use mathlib.Core.Path.{subst}
use mir.Facts.{sfits_lit}
use Rattle.laws.proofs.Signed.{handed, same_bits, other_bits}
use Rattle.timing.specs.Limits.{absent_wide}
use Rattle.paths.proofs.MarginCells.{margin_no_first, margin_no_second, margin_there, margin_fits}
use Rattle.paths.proofs.margins.margin_of.Goals as goal
use Rattle.paths.proofs.margins.margin_of.Goals.{then-required-eq-ABSENT_WIDE-via-then-required-eq-ABSENT_WIDE, then-required-eq-ABSENT_WIDE-via-else-required-eq-ABSENT_WIDE+then-arrival-eq-ABSENT_WIDE}

pub returns-then-required-eq-ABSENT_WIDE : goal.returns-then-required-eq-ABSENT_WIDE
returns-then-required-eq-ABSENT_WIDE c =
    elim c.then-required-eq-ABSENT_WIDE.branch [
      | then-required-eq-ABSENT_WIDE-via-then-required-eq-ABSENT_WIDE w ↦ margin_no_first c.args.required c.args.arrival (same_bits {w = w64} {b = absent_wide} c.ranges.required (sfits_lit tt) w.if-required-eq-ABSENT_WIDE.true)
      | then-required-eq-ABSENT_WIDE-via-else-required-eq-ABSENT_WIDE+then-arrival-eq-ABSENT_WIDE w ↦ margin_no_second c.args.required c.args.arrival (other_bits w64 w.if-required-eq-ABSENT_WIDE.false) (same_bits {w = w64} {b = absent_wide} c.ranges.arrival (sfits_lit tt) w.if-arrival-eq-ABSENT_WIDE.true)
    ]

pub overflow_sub-result : goal.overflow_sub-result
overflow_sub-result c =
    subst (FitsSigned w64) (sym (ap₂ ◌-ℤ◌ (to_z-of_z w64 c.args.required c.ranges.required) (to_z-of_z w64 c.args.arrival c.ranges.arrival)))
    (margin_fits c.args.required c.args.arrival (other_bits w64 c.if-required-eq-ABSENT_WIDE.false) (other_bits w64 c.if-arrival-eq-ABSENT_WIDE.false) c.requires.required_fits c.requires.arrival_fits)

pub returns : goal.returns
returns c =
    let nr = other_bits w64 c.if-required-eq-ABSENT_WIDE.false in
    let na = other_bits w64 c.if-arrival-eq-ABSENT_WIDE.false in
    handed w64 (ap₂ ◌-ℤ◌ (to_z-of_z w64 c.args.required c.ranges.required) (to_z-of_z w64 c.args.arrival c.ranges.arrival)) (margin_fits c.args.required c.args.arrival nr na c.requires.required_fits c.requires.arrival_fits)
    ∙ margin_there c.args.required c.args.arrival nr na
