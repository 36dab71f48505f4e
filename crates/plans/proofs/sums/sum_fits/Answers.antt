use Rattle.std.proofs.Common.{◌≡◌, true, sym, ap, ap₂, ◌∙◌, ℤ, ◌+ℤ◌, w32, w64, arith}
use Rattle.std.proofs.lemmas.Int.{to_z-of_z}
use Rattle.laws.proofs.Signed.{handed}
use Rattle.graph.specs.Delay.{at, present}
use Rattle.timing.specs.Limits.{delay_limit, absent_cell, fits}
use Rattle.timing.specs.Table.{read_cell}
use Rattle.plans.proofs.SumCells.{sum_widens, sum_at}
use Rattle.plans.proofs.sums.sum_fits.Goals as goal

pub returns-else-not-is_arc-2 : goal.returns-else-not-is_arc-2
returns-else-not-is_arc-2 c =
    let a = c.args.a in
    let b = c.args.b in
    let there : present (read_cell absent_cell a) ≡ true = grind arith in
    let there_b : present (read_cell absent_cell b) ≡ true = grind arith in
    c.in_range.ensures
    ∙ ap (λ (z : ℤ). fits delay_limit (at z)) (handed w64 (c.wide_sum.ensures ∙ ap₂ ◌+ℤ◌ (to_z-of_z w32 a c.ranges.a) (to_z-of_z w32 b c.ranges.b)) (sum_widens c.ranges.a c.ranges.b))
    ∙ sym (ap (fits delay_limit) (sum_at a b there there_b))
