use Rattle.std.proofs.Common.{◌+◌, ◌<◌, sym, ◌∙◌, length, arith}
use Rattle.std.proofs.lemmas.Bool.Decides.{nat_tests}
use lib.Dec.{eqb→eq}
use Rattle.laws.proofs.Booleans.{is_false, true_is}
use Rattle.laws.proofs.Truth.{both, no_first, no_second}
use Rattle.reduction.specs.Star.{non_empty, distinct}
use Rattle.stars.proofs.Members.{none, one, found_is, distinct_pass, distinct_stop, distinct_end}
use Rattle.stars.proofs.Sets.{set-size}
use Rattle.stars.proofs.star.is_set.Goals as goal
use Rattle.stars.proofs.star.is_set.Goals.{then-is_empty-via-then-is_empty, then-is_empty-via-else-is_empty+then-n-xs}

pub returns-then-is_empty : goal.returns-then-is_empty
returns-then-is_empty c =
    let xs = c.args.xs.now in
    elim c.then-is_empty.branch [
      | then-is_empty-via-then-is_empty w ↦ sym (no_first (non_empty xs) (distinct xs) (none xs (eqb→eq (length xs) 0 (true_is (sym c.is_empty.ensures ∙ w.if-is_empty.true)))))
      | then-is_empty-via-else-is_empty+then-n-xs w ↦ sym (no_second (non_empty xs) (distinct xs) (is_false (distinct xs) (λ t. omega (arith, w.if-n-xs.true, set-size _ _ c.requires t))))
    ]

pub returns-then-contains : goal.returns-then-contains
returns-then-contains c =
    let xs = c.args.xs.now in
    sym (no_second (non_empty xs) (distinct xs) (sym c.loop-i.invariant ∙ distinct_stop _ _ c.loop-i-test.true (sym (found_is _ xs (c.loop-i.i + 1)) ∙ sym c.contains.ensures.value ∙ c.if-contains.true)))

pub loop-i-preserved : goal.loop-i-preserved
loop-i-preserved c =
    let xs = c.args.xs.now in
    sym (distinct_pass _ _ c.loop-i-test.true (sym (found_is _ xs (c.loop-i.i + 1)) ∙ sym c.contains.ensures.value ∙ c.if-contains.false)) ∙ c.loop-i.invariant

pub returns : goal.returns
returns c =
    let xs = c.args.xs.now in
    let some : 0 < length xs = grind (arith, nat_tests) in
    sym (both (non_empty xs) (distinct xs) (one xs some) (sym c.loop-i.invariant ∙ distinct_end xs c.loop-i.i (omega arith)))
