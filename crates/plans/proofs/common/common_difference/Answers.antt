use Rattle.std.proofs.Common.{◌≡◌, pos, get_or, w64, to_z, of_z, ap, ◌∙◌, rules, arith}
use Rattle.timing.specs.Refusal.{verdict}
use Rattle.plans.proofs.Differences.{seen_none, seen_more, seen_ends, seen_refuses}
use Rattle.plans.proofs.common.common_difference.Goals as goal

pub compare-init : goal.compare-init
compare-init c = record { within = omega arith; said = seen_none _ _ }

pub compare-preserved : goal.compare-preserved
compare-preserved c =
    let j = c.compare.j in
    let x : to_z w64 (of_z w64 (get_or c.args.xs.now j (pos 0))) ≡ get_or c.args.xs.now j (pos 0) = search rules in
    let y : to_z w64 (of_z w64 (get_or c.args.ys.now j (pos 0))) ≡ get_or c.args.ys.now j (pos 0) = search rules in
    let said = rw (x, y) at c.in-Ok.ensures in
    record {
      within = omega arith;
      said = said ∙ seen_more _ _ j c.compare.seen c.compare.invariant.said;
    }

pub returns-then-j-xs : goal.returns-then-j-xs
returns-then-j-xs c = ap verdict c.ok_or.ensures.value ∙ seen_ends _ _ c.compare.j _ c.compare.seen c.compare.invariant.said (omega (arith, c.if-j-xs.true, c.compare.invariant.within))

pub returns-in-Err : goal.returns-in-Err
returns-in-Err c =
    let j = c.compare.j in
    let x : to_z w64 (of_z w64 (get_or c.args.xs.now j (pos 0))) ≡ get_or c.args.xs.now j (pos 0) = search rules in
    let y : to_z w64 (of_z w64 (get_or c.args.ys.now j (pos 0))) ≡ get_or c.args.ys.now j (pos 0) = search rules in
    let said = rw (x, y) at c.in-Err.ensures in
    seen_refuses _ _ j _ c.compare.seen _ c.compare.invariant.said (omega arith) said
