use Rattle.std.proofs.Common.{◌≡◌, ◌≤◌, length, pos, w64, to_z, of_z, ◌∙◌, ℕ, FitsSigned, rules, arith}
use mir.Facts.{to_z_pos}
use Rattle.laws.proofs.Linear.{zneeds}
use Rattle.host.specs.Runs.{whole_cells}
use Rattle.host.proofs.Shown.{shown_le, copied}
use Rattle.host.proofs.Stepping.{Over, arcs_small, accepts, refuses}
use Rattle.host.proofs.reduce.reduce_in.Goals as goal

pub take_table-requires : goal.take_table-requires
take_table-requires g c = omega (arith, c.requires, shown_le c.args.vertices c.args.vertices (whole_cells 4 c.args.table.now))

pub put_table-requires : goal.put_table-requires
put_table-requires g c = omega (arith, c.reduce.auto.table, c.take_table.auto.cells, c.requires, shown_le c.args.vertices c.args.vertices (whole_cells 4 c.args.table.now))

-- the arcs left, as a signed number
fits : (a : ℕ) → a ≤ 8100 → FitsSigned w64 (pos a)
fits a h = omega zneeds

pub overflow_cast-result : goal.overflow_cast-result
overflow_cast-result g c =
    let copy = copied _ _ _ _ c.take_table.ensures c.requires in
    let over : Over c.args.inputs c.args.outputs c.args.vertices (length c.args.scratch.now) (g.S.Step.meaning c.args.step.now) c.args.table.now c.take_table.new.cells c.reduce.new.table c.reduce.result = record { are = λ j. search rules; copy = copy; call = c.reduce.ensures.reduces } in
    fits _ (arcs_small over _ c.in-Ok.is)

pub returns-in-Ok : goal.returns-in-Ok
returns-in-Ok g c =
    let copy = copied _ _ _ _ c.take_table.ensures c.requires in
    let over : Over c.args.inputs c.args.outputs c.args.vertices (length c.args.scratch.now) (g.S.Step.meaning c.args.step.now) c.args.table.now c.take_table.new.cells c.reduce.new.table c.reduce.result = record { are = λ j. search rules; copy = copy; call = c.reduce.ensures.reduces } in
    let h = arcs_small over _ c.in-Ok.is in
    let p = accepts over _ c.in-Ok.is _ c.put_table.ensures in
    record { value = to_z_pos w64 {n = c.in-Ok.arcs} (omega (arith, h)) ∙ p.0; table_after = p.1 }

pub returns-in-Err : goal.returns-in-Err
returns-in-Err g c =
    let copy = copied _ _ _ _ c.take_table.ensures c.requires in
    let over : Over c.args.inputs c.args.outputs c.args.vertices (length c.args.scratch.now) (g.S.Step.meaning c.args.step.now) c.args.table.now c.take_table.new.cells c.reduce.new.table c.reduce.result = record { are = λ j. search rules; copy = copy; call = c.reduce.ensures.reduces } in
    let p = refuses over _ c.in-Err.is in
    let same : to_z w64 (of_z w64 c.refused.result) ≡ c.refused.result = search rules in
    record { value = same ∙ c.refused.ensures ∙ p.0; table_after = p.1 }
