use Rattle.std.proofs.Common.{◌≡◌, pos, length, get_or, w32, to_z, of_z, ap, ◌∙◌, rules}
use Rattle.laws.specs.Lists.{tabulate}
use Rattle.graph.specs.Delay.{Delay}
use Rattle.plans.specs.ShrunkRow.{joined_cell}
use Rattle.plans.proofs.LoweredSums.{negated_cell}
use Rattle.plans.proofs.MergedRows.{output_row, other_row}
use Rattle.plans.proofs.merge_back.MergeBack.merge_row.Goals as goal
use Rattle.plans.proofs.merge_back.MergeBack.merge_row.Goals.{then-u-self-2, else-u-self-2}

pub join_row-requires-clause-sums_fit : goal.join_row-requires-clause-sums_fit
join_row-requires-clause-sums_fit c = rw (negated_cell c.args.self.now.d c.requires.redirectable.legal c.negated.ensures) c.requires.lowered_fit

pub returns : goal.returns
returns c =
    let x = c.args.self.now in
    let row = c.args.row.now in
    let via = c.args.via.now in
    let u = c.args.u in
    let into : to_z w32 (of_z w32 (get_or row x.v (pos 0))) ≡ get_or row x.v (pos 0) = search rules in
    rw into at c.redirect.ensures ∙ elim c.if-u-self-2.branch [
      | then-u-self-2 w ↦ output_row row via x.v x.o x.d u c.if-u-self.false w.if-u-self-2.true c.if-u-self-2.row
          (w.row-is ∙ w.join_row.ensures ∙ ap (λ (y : Delay). tabulate (length row) (joined_cell row via y)) (negated_cell c.args.self.now.d c.requires.redirectable.legal w.negated.ensures))
      | else-u-self-2 w ↦ other_row row via x.v x.o x.d u c.if-u-self.false w.if-u-self-2.false c.if-u-self-2.row w.row-is
    ]
