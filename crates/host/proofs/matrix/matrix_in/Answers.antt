use Rattle.std.proofs.Common.{◌∙◌, length, rules, arith, w64}
use Rattle.laws.proofs.Signed.{back}
use Rattle.host.specs.Runs.{whole_cells}
use Rattle.host.proofs.Shown.{shown_le, copied}
use Rattle.host.proofs.Matrices.{Over, done, refuses}
use Rattle.codec.proofs.Places.{AreBytes}
use Rattle.host.proofs.matrix.matrix_in.Goals as goal

pub take_table-requires : goal.take_table-requires
take_table-requires c = omega (arith, c.requires.cells_len, shown_le c.args.vertices c.args.vertices (whole_cells 4 c.args.table.now))

pub put_matrix-requires : goal.put_matrix-requires
put_matrix-requires c =
    let a = c.args in
    omega (arith, c.delay_matrix.auto.destination, c.requires.delays_len, shown_le a.inputs a.outputs (whole_cells 8 a.matrix.now))

pub returns-in-Ok-clause-value : goal.returns-in-Ok-clause-value
returns-in-Ok-clause-value c =
    let a = c.args in
    let are : AreBytes a.matrix.now = search rules in
    let over : Over a.inputs a.outputs a.vertices (length a.scratch.now) a.table.now a.matrix.now c.take_table.new.cells a.delays.now c.delay_matrix.new.destination c.delay_matrix.result =
    record { are = are; copy = copied _ _ _ _ c.take_table.ensures c.requires.cells_len; long = c.requires.delays_len; call = c.delay_matrix.ensures.fills } in
    (done over c.in-Ok.is _ c.put_matrix.ensures).0

pub returns-in-Ok-clause-matrix_after : goal.returns-in-Ok-clause-matrix_after
returns-in-Ok-clause-matrix_after c =
    let a = c.args in
    let are : AreBytes a.matrix.now = search rules in
    let over : Over a.inputs a.outputs a.vertices (length a.scratch.now) a.table.now a.matrix.now c.take_table.new.cells a.delays.now c.delay_matrix.new.destination c.delay_matrix.result =
    record { are = are; copy = copied _ _ _ _ c.take_table.ensures c.requires.cells_len; long = c.requires.delays_len; call = c.delay_matrix.ensures.fills } in
    (done over c.in-Ok.is _ c.put_matrix.ensures).1

pub returns-in-Err-clause-value : goal.returns-in-Err-clause-value
returns-in-Err-clause-value c =
    let a = c.args in
    let are : AreBytes a.matrix.now = search rules in
    let over : Over a.inputs a.outputs a.vertices (length a.scratch.now) a.table.now a.matrix.now c.take_table.new.cells a.delays.now c.delay_matrix.new.destination c.delay_matrix.result =
    record { are = are; copy = copied _ _ _ _ c.take_table.ensures c.requires.cells_len; long = c.requires.delays_len; call = c.delay_matrix.ensures.fills } in
    back w64 _ c.refused.type_inv ∙ c.refused.ensures ∙ (refuses over _ c.in-Err.is).0

pub returns-in-Err-clause-matrix_after : goal.returns-in-Err-clause-matrix_after
returns-in-Err-clause-matrix_after c =
    let a = c.args in
    let are : AreBytes a.matrix.now = search rules in
    let over : Over a.inputs a.outputs a.vertices (length a.scratch.now) a.table.now a.matrix.now c.take_table.new.cells a.delays.now c.delay_matrix.new.destination c.delay_matrix.result =
    record { are = are; copy = copied _ _ _ _ c.take_table.ensures c.requires.cells_len; long = c.requires.delays_len; call = c.delay_matrix.ensures.fills } in
    (refuses over _ c.in-Err.is).1
