use Rattle.std.proofs.Common.{◌≡◌, ◌∙◌, w32, to_z, of_z, rules, arith}
use Rattle.std.specs.Int.{int_max}
use Rattle.std.specs.Int.Signed.{lt_z}
use Rattle.std.proofs.lemmas.Int.{ints, clamps}
use Rattle.laws.proofs.Booleans.{cases}
use Rattle.laws.proofs.Signed.{less_yes, less_no}
use Rattle.plans.proofs.SumCells.{larger_first, larger_second}
use Rattle.plans.proofs.sums.larger.Goals as goal

pub returns : goal.returns
returns c =
    let a = c.args.a in
    let b = c.args.b in
    let said : to_z w32 (of_z w32 c.max.result) ≡ int_max a b = search rules in
    said ∙ cases (lt_z a b)
    (λ e. let h = less_yes a b e in let m : int_max a b ≡ b = omega (arith, ints, clamps) in m ∙ larger_second a b c.ranges.a e)
    (λ e. let h = less_no a b e in let m : int_max a b ≡ a = omega (arith, ints, clamps) in m ∙ larger_first a b c.ranges.b e)
