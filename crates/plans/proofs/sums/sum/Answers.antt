use Rattle.std.proofs.Common.{◌≡◌, T, true, false, refl, sym, ap, ap₂, ◌∙◌, subst, ℤ, ◌+ℤ◌, w32, rules}
use Rattle.std.proofs.lemmas.Int.{to_z-of_z}
use Rattle.laws.proofs.Signed.{handed}
use Rattle.graph.specs.Delay.{Delay, at, present, ◌⊕◌}
use Rattle.timing.specs.Limits.{delay_limit, absent_cell, fits}
use Rattle.timing.specs.Table.{read_cell}
use Rattle.timing.proofs.Limits.{not_mark}
use Rattle.timing.proofs.Table.{read_absent, read_at}
use Rattle.plans.proofs.SumCells.{sum_absent_l, sum_absent_r, sum_at, delay_narrow}
use Rattle.plans.proofs.sums.sum.Goals as goal
use Rattle.plans.proofs.sums.sum.Goals.{else-is_arc-via-then-is_arc+else-is_arc-2, else-is_arc-via-else-is_arc}

legal : (a b : ℤ) → read_cell absent_cell a ⊕ read_cell absent_cell b ≡ at (a +ℤ b) → T (fits delay_limit (read_cell absent_cell a ⊕ read_cell absent_cell b)) → T (fits delay_limit (at (a +ℤ b)))
legal a b e t = subst (λ (d : Delay). T (fits delay_limit d)) e t

pub overflow_add-result : goal.overflow_add-result
overflow_add-result c =
    let a = c.args.a in
    let b = c.args.b in
    let there : present (read_cell absent_cell a) ≡ true = search rules in
    let there_b : present (read_cell absent_cell b) ≡ true = search rules in
    rw (to_z-of_z w32 a c.ranges.a, to_z-of_z w32 b c.ranges.b) (delay_narrow (a +ℤ b) (legal a b (sum_at a b there there_b) c.requires))

pub returns-then-is_arc-2 : goal.returns-then-is_arc-2
returns-then-is_arc-2 c =
    let a = c.args.a in
    let b = c.args.b in
    let there : present (read_cell absent_cell a) ≡ true = search rules in
    let there_b : present (read_cell absent_cell b) ≡ true = search rules in
    let total : read_cell absent_cell a ⊕ read_cell absent_cell b ≡ at (a +ℤ b) = sum_at a b there there_b in
    ap (read_cell absent_cell) (handed w32 (ap₂ ◌+ℤ◌ (to_z-of_z w32 a c.ranges.a) (to_z-of_z w32 b c.ranges.b)) (delay_narrow (a +ℤ b) (legal a b total c.requires)))
    ∙ read_at absent_cell (a +ℤ b) (not_mark (a +ℤ b) (legal a b total c.requires)) ∙ sym total

pub returns-else-is_arc : goal.returns-else-is_arc
returns-else-is_arc c =
    let a = c.args.a in
    let b = c.args.b in
    read_absent absent_cell absent_cell refl ∙ sym (elim c.else-is_arc.branch [
      | else-is_arc-via-then-is_arc+else-is_arc-2 w ↦ let gone : present (read_cell absent_cell b) ≡ false = search rules in sum_absent_r a b gone
      | else-is_arc-via-else-is_arc w ↦ let gone : present (read_cell absent_cell a) ≡ false = search rules in sum_absent_l a b gone
    ])
