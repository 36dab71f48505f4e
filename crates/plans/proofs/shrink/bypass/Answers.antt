use Rattle.std.proofs.Common.{◌≡◌, false, ℤ, pos, length, get_or, w32, to_z, of_z, ap, ◌∙◌, rules}
use Rattle.laws.specs.Lists.{tabulate}
use Rattle.graph.specs.Delay.{present}
use Rattle.timing.specs.Limits.{absent_cell}
use Rattle.timing.specs.Table.{read_cell}
use Rattle.paths.specs.Cells.{cell_at}
use Rattle.plans.specs.ShrunkRow.{joined_cell}
use Rattle.plans.proofs.ShrunkRows.{bypassed_before, bypassed_after}
use Rattle.plans.proofs.shrink.bypass.Goals as goal

pub returns-then-is_arc : goal.returns-then-is_arc
returns-then-is_arc c =
    let row = c.args.row.now in
    let via = c.args.via.now in
    let k = c.args.k in
    let into : to_z w32 (of_z w32 (get_or row k (pos 0))) ≡ get_or row k (pos 0) = search rules in
    bypassed_after row via k c.join_row.new.row (c.join_row.ensures ∙ ap (λ (z : ℤ). tabulate (length row) (joined_cell row via (read_cell absent_cell z))) into) c.requires.inside

pub returns-else-is_arc : goal.returns-else-is_arc
returns-else-is_arc c =
    let gone : present (cell_at c.args.row.now c.args.k) ≡ false = search rules in
    bypassed_before c.args.row.now c.args.via.now c.args.k gone
