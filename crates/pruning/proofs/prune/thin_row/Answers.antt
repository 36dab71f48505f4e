use Rattle.std.proofs.Common.{◌≡◌, ℕ, ℤ, List, cond, get_or, pos, false, w32, to_z, of_z, ap, ◌∙◌, rules, arith}
use Rattle.laws.proofs.Filling.{fill_none, fill_here, fill_turn}
use Rattle.timing.specs.Limits.{absent_cell}
use Rattle.pruning.proofs.prune.thin_row.Goals as goal
use Rattle.pruning.proofs.prune.thin_row.Goals.{then-marks-v, else-marks-v}

pub loop-v-init : goal.loop-v-init
loop-v-init c = fill_none _ _

pub loop-v-preserved : goal.loop-v-preserved
loop-v-preserved c =
    let row = c.args.row.now in
    let mark = λ (v : ℕ). get_or c.args.marks.now v false in
    let cell_of : ℕ → ℤ = λ v. cond (mark v) (get_or row v (pos 0)) absent_cell in
    let l = c.loop-v in
    let old : get_or l.row l.v (pos 0) ≡ get_or row l.v (pos 0) = ap (λ (r : List ℤ). get_or r l.v (pos 0)) l.invariant ∙ fill_here cell_of row l.v (pos 0) (omega arith) in
    let said : to_z w32 c.if-marks-v.cell-bits ≡ cell_of l.v = elim c.if-marks-v.branch [
      | then-marks-v w ↦ let held : to_z w32 (of_z w32 (get_or l.row l.v (pos 0))) ≡ get_or l.row l.v (pos 0) = search rules in rw w.if-marks-v.true (w.cell-is ∙ held ∙ old)
      | else-marks-v w ↦ rw w.if-marks-v.false w.cell-is
    ] in
    fill_turn cell_of row l.row l.v _ (omega arith) l.invariant said
