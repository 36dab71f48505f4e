use Rattle.std.proofs.Common.{◌≡◌, ℤ, neg_ℤ, w32, to_z, of_z, sym, ap, ◌∙◌}
use Rattle.std.proofs.lemmas.Int.{to_z-of_z}
use Rattle.laws.specs.Bounded.{every}
use Rattle.graph.specs.Delay.{at, ◌⊕◌}
use Rattle.timing.specs.Limits.{delay_limit, fits}
use Rattle.timing.specs.Table.{graph_of}
use Rattle.reduction.specs.MergeBack.{merge_fits}
use Rattle.plans.proofs.CopiedRow.{row_fits, sums_row}
use Rattle.plans.proofs.LoweredSums.{negated_is, lowered_same}
use Rattle.plans.proofs.merge_back.merge_fits.Goals as goal

pub row_sums_fit-requires-clause-via_fits : goal.row_sums_fit-requires-clause-via_fits
row_sums_fit-requires-clause-via_fits c = row_fits c.args.table.now.board.vertices c.args.table.now.cells.now c.args.v _ c.row.ensures c.args.table.now.room c.requires.drives.from_below c.requires.in_range

pub returns-then-column_sums_fit : goal.returns-then-column_sums_fit
unfolding merge_fits
returns-then-column_sums_fit c =
    let n = c.args.table.now.board.vertices in
    let t = c.args.table.now.cells.now in
    let v = c.args.v in
    let d = c.args.d in
    let lowered : to_z w32 (of_z w32 c.negated.result) ≡ neg_ℤ d = negated_is d c.requires.drives.legal c.negated.ensures in
    simp (sym (rw (to_z-of_z w32 d c.ranges.d) at c.column_sums_fit.ensures) ∙ c.if-column_sums_fit.true)
    (c.row_sums_fit.ensures
    ∙ sums_row (at (to_z w32 (of_z w32 c.negated.result))) n t v _ c.row.ensures c.args.table.now.room c.requires.drives.from_below ∙ ap (λ (z : ℤ). every n (λ x. fits delay_limit (at z ⊕ graph_of n t v x))) lowered
    ∙ lowered_same n (graph_of n t) v c.args.o d c.requires.drives.arc)

pub returns-else-column_sums_fit : goal.returns-else-column_sums_fit
unfolding merge_fits
returns-else-column_sums_fit c =
    simp (sym (rw (to_z-of_z w32 c.args.d c.ranges.d) at c.column_sums_fit.ensures) ∙ c.if-column_sums_fit.false) c.if-column_sums_fit.false
