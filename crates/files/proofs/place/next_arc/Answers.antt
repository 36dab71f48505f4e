use Rattle.std.proofs.Common.{◌≡◌, sym, ap, ◌∙◌, rules, arith, w32, to_z, of_z}
use Rattle.laws.proofs.Signed.{back}
use Rattle.timing.specs.Refusal.{accepted, verdict}
use Rattle.format.proofs.AcceptedRecords.{legal}
use Rattle.files.specs.Loads.{loads_of}
use Rattle.files.proofs.NextArcs.{arc_steps, cell_steps}
use Rattle.files.proofs.place.next_arc.Goals as goal

pub bounds-loads-to : goal.bounds-loads-to
bounds-loads-to c =
    let ends = legal _ _ _ _ (sym c.record_at.ensures ∙ ap verdict c.in-Ok-Cell.is ∙ ap accepted c.in-Ok-Cell.field-0-is) in
    omega (arith, ends.1, ends.2, c.requires.n_in_bounds)

pub returns-in-Ok-Arc-clause-places : goal.returns-in-Ok-Arc-clause-places
returns-in-Ok-Arc-clause-places c =
    let held : to_z w32 (of_z w32 c.in-Ok-Arc.delay) ≡ c.in-Ok-Arc.delay = search rules in
    (arc_steps c.args.library.now.cells.now c.args.n c.args.bytes.now (loads_of c.args.loads.now) c.args.at c.in-Ok-Arc.from c.in-Ok-Arc.to _ _ (sym c.record_at.ensures ∙ ap verdict c.in-Ok-Arc.is ∙ ap accepted c.in-Ok-Arc.field-0-is) held).0

pub returns-in-Ok-Arc-clause-next_within : goal.returns-in-Ok-Arc-clause-next_within
returns-in-Ok-Arc-clause-next_within c =
    let held : to_z w32 (of_z w32 c.in-Ok-Arc.delay) ≡ c.in-Ok-Arc.delay = search rules in
    (arc_steps c.args.library.now.cells.now c.args.n c.args.bytes.now (loads_of c.args.loads.now) c.args.at c.in-Ok-Arc.from c.in-Ok-Arc.to _ _ (sym c.record_at.ensures ∙ ap verdict c.in-Ok-Arc.is ∙ ap accepted c.in-Ok-Arc.field-0-is) held).1

pub returns-in-Ok-Cell-clause-places : goal.returns-in-Ok-Cell-clause-places
returns-in-Ok-Cell-clause-places c =
    (cell_steps c.args.library.now.cells.now c.args.n c.args.bytes.now (loads_of c.args.loads.now) c.args.at c.in-Ok-Cell.from c.in-Ok-Cell.to _ c.args.library.now.in_force _ (sym c.record_at.ensures ∙ ap verdict c.in-Ok-Cell.is ∙ ap accepted c.in-Ok-Cell.field-0-is) (back w32 _ c.cell_delay.type_inv ∙ c.cell_delay.ensures)).0

pub returns-in-Ok-Cell-clause-next_within : goal.returns-in-Ok-Cell-clause-next_within
returns-in-Ok-Cell-clause-next_within c =
    (cell_steps c.args.library.now.cells.now c.args.n c.args.bytes.now (loads_of c.args.loads.now) c.args.at c.in-Ok-Cell.from c.in-Ok-Cell.to _ c.args.library.now.in_force _ (sym c.record_at.ensures ∙ ap verdict c.in-Ok-Cell.is ∙ ap accepted c.in-Ok-Cell.field-0-is) (back w32 _ c.cell_delay.type_inv ∙ c.cell_delay.ensures)).1
