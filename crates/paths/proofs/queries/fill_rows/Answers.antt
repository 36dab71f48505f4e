use Rattle.std.proofs.Common.{◌≡◌, ◌+◌, ◌*◌, ◌-◌, ◌<◌, ◌≤◌, ℕ, length, ◌∙◌, arith}
use mathlib.Core.Path.{subst}
use borrow.Rule.Slice.PartMut.{put_mid}
use Rattle.laws.proofs.Grid.{row_of}
use Rattle.paths.specs.Arrivals.{lane}
use Rattle.paths.specs.Queries.{RowsMade}
use Rattle.paths.proofs.Tables.{walk_passable}
use Rattle.paths.proofs.Lanes.{lane_lent}
use Rattle.paths.proofs.MatrixRows.{row_made}
use Rattle.paths.proofs.queries.fill_rows.Goals as goal

pub slice_bounds-copy_out-end : goal.slice_bounds-copy_out-end
slice_bounds-copy_out-end g c =
    let h : c.args.i + c.loop-l.l < c.args.walk.now.table.board.inputs = omega arith in
    omega (arith, row_of c.args.walk.now.table.board.outputs (c.args.i + c.loop-l.l) c.args.walk.now.table.board.inputs h, c.requires.destination_room, c.loop-l.auto.destination)

pub loop-l-preserved : goal.loop-l-preserved
loop-l-preserved g c =
    let b = c.args.walk.now.table.board in
    let n = b.outputs in
    let l = c.loop-l.l in
    let u = c.args.i + l in
    let h : u < b.inputs = omega arith in
    let room : n * u + n ≤ length c.loop-l.destination = omega (arith, row_of n u b.inputs h, c.requires.destination_room, c.loop-l.auto.destination) in
    let e : u + 1 ≡ c.args.i + (l + 1) = omega arith in
    subst (λ (z : ℕ). RowsMade b c.args.walk.now.table.cells.now c.args.i z c.args.destination.now (put_mid (n * u) (n * u + n - n * u) c.loop-l.destination c.copy_out.new.row)) e
    (λ d₀ q. row_made (walk_passable c.args.walk.now) u h c.loop-l.destination (lane b.vertices l c.args.scratch.now) _ c.copy_out.new.row room
    (lane_lent b.vertices l c.delays_from_each.new.f ∙ c.delays_from_each.ensures.delay_lanes l c.loop-l-test.true) c.copy_out.ensures d₀ (c.loop-l.invariant d₀ q))
