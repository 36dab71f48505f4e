use Rattle.std.proofs.Common.{◌≡◌, subst, Some, rules, w32, to_z, of_z}
use Rattle.files.specs.Loads.{loads_of}
use Rattle.files.proofs.NextArcs.{Steps}
use Rattle.files.proofs.PlacingArcs.{placing_turn, placing_graph, placing_table}
use Rattle.files.proofs.place.place.Goals as goal

pub loop-arc-preserved : goal.loop-arc-preserved
loop-arc-preserved c =
    let x = c.in-Some.arc in
    let held : to_z w32 (of_z w32 x.delay) ≡ x.delay = search rules in
    let step : Steps c.args.library.now.cells.now c.args.n c.args.bytes.now (loads_of c.args.loads.now) c.loop-arc.at (Some x) = (c.in-Some.ensures.places, c.in-Some.ensures.next_within) in
    simp (c.cell_of.ensures.0, held) (placing_turn _ _ _ _ _ c.loop-arc.table c.loop-arc.at c.loop-arc.invariant c.requires.table_room x.from x.to x.next x.delay step)

pub returns-clause-graph_after : goal.returns-clause-graph_after
returns-clause-graph_after c =
    placing_graph _ _ _ _ _ _ _ c.loop-arc.invariant (subst (Steps c.args.library.now.cells.now c.args.n c.args.bytes.now (loads_of c.args.loads.now) c.loop-arc.at) c.in_default.is (c.next_arc.ensures.places, c.next_arc.ensures.next_within))

pub returns-clause-table_after : goal.returns-clause-table_after
returns-clause-table_after c =
    placing_table _ _ _ _ _ _ _ c.loop-arc.invariant c.requires.table_room (subst (Steps c.args.library.now.cells.now c.args.n c.args.bytes.now (loads_of c.args.loads.now) c.loop-arc.at) c.in_default.is (c.next_arc.ensures.places, c.next_arc.ensures.next_within))
