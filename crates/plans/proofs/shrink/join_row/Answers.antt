use Rattle.std.proofs.Common.{◌≡◌, ℤ, List, length, get_or, pos, w32, to_z, of_z, ap, ◌∙◌, rules, arith}
use Rattle.std.proofs.lemmas.Int.{to_z-of_z}
use Rattle.laws.proofs.Bounded.{every_at}
use Rattle.laws.proofs.Filling.{fill_none, fill_here, fill_turn}
use Rattle.graph.specs.Delay.{◌⋓◌, ◌⊕◌}
use Rattle.timing.specs.Limits.{delay_limit, absent_cell, fits}
use Rattle.timing.specs.Table.{read_cell, write_cell}
use Rattle.paths.specs.Cells.{cell_at}
use Rattle.plans.specs.ShrunkRow.{joined_cell}
use Rattle.plans.proofs.shrink.join_row.Goals as goal

pub loop-t-init : goal.loop-t-init
loop-t-init c = fill_none _ _

pub join-requires : goal.join-requires
join-requires c =
    let via = c.args.via.now in
    let t = c.loop-t.t in
    let cell : to_z w32 (of_z w32 (get_or via t (pos 0))) ≡ get_or via t (pos 0) = search rules in
    rw (cell, to_z-of_z w32 c.args.into c.ranges.into)
    (every_at (length c.args.row.now) (λ t. fits delay_limit (read_cell absent_cell c.args.into ⊕ cell_at via t)) c.requires.sums_fit t (omega arith))

pub loop-t-preserved : goal.loop-t-preserved
loop-t-preserved c =
    let row = c.args.row.now in
    let via = c.args.via.now in
    let into = read_cell absent_cell (to_z w32 (of_z w32 c.args.into)) in
    let l = c.loop-t in
    let said : to_z w32 (of_z w32 c.join.result) ≡ write_cell absent_cell (cell_at l.row l.t ⋓ (into ⊕ cell_at via l.t)) = search rules in
    fill_turn (joined_cell row via into) row l.row l.t _ (omega arith) l.invariant
    (said ∙ ap (λ (z : ℤ). write_cell absent_cell (read_cell absent_cell z ⋓ (into ⊕ cell_at via l.t)))
    (ap (λ (r : List ℤ). get_or r l.t (pos 0)) l.invariant ∙ fill_here (joined_cell row via into) row l.t (pos 0) (omega arith)))
