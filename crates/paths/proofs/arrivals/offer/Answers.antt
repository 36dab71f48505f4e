use Rattle.std.proofs.Common.{◌≡◌, ◌+ℤ◌, w64, to_z, of_z, ap, ◌∙◌, arith}
use Rattle.std.proofs.lemmas.Int.{to_z-of_z}
use Rattle.graph.specs.Delay.{◌⋓◌, ◌⊕◌}
use Rattle.laws.proofs.Signed.{widens}
use Rattle.timing.specs.Limits.{absent_cell, absent_wide}
use Rattle.timing.specs.Table.{read_cell}
use Rattle.timing.specs.Delays.{arrival_in}
use Rattle.paths.proofs.Later.{sum_fits, offered_set, offered_keep}
use Rattle.paths.proofs.arrivals.offer.Goals as goal

pub returns-then-gains : goal.returns-then-gains
returns-then-gains c =
    let p = c.requires in
    let f = sum_fits c.args.a c.args.cell p.reached p.cell_fits p.cell_nonzero in
    let y : to_z w64 (of_z w64 (to_z w64 (of_z w64 c.args.a) +ℤ to_z w64 (of_z w64 c.from.result))) ≡ c.args.a +ℤ c.args.cell = grind (arith, to_z-of_z, widens) in
    let h = c.gains.ensures.later c.if-gains.true in
    let e : read_cell absent_wide (c.args.a +ℤ c.args.cell) ≡ arrival_in c.args.f.now c.args.x ⋓ (read_cell absent_wide c.args.a ⊕ read_cell absent_cell c.args.cell) = grind (arith, to_z-of_z, h.1) in
    offered_set c.args.f.now c.args.x c.args.a c.args.cell _ p.x_in_bounds (ap (read_cell absent_wide) y ∙ e)

pub returns-else-gains : goal.returns-else-gains
returns-else-gains c =
    let h = c.gains.ensures.not_later c.if-gains.false in
    offered_keep c.args.f.now c.args.x c.args.a c.args.cell (grind (arith, to_z-of_z, h))
