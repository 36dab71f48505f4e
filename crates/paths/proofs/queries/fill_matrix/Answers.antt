use Rattle.std.proofs.Common.{drop, List, ℤ, sym, ◌≡◌, ◌+◌, ◌*◌, ◌≤◌, ℕ, length, ◌∙◌, arith}
use mathlib.Core.Path.{subst}
use Rattle.laws.proofs.Filling.{rows_none}
use Rattle.timing.specs.Limits.{scratch_cells}
use Rattle.timing.specs.Delays.{matrix_cells}
use Rattle.paths.specs.Tables.{of_table}
use Rattle.paths.specs.declared.table.Table.{Table}
use Rattle.paths.specs.Board.{ScratchRoom}
use Rattle.paths.specs.Queries.{RowsDone, entry, RowsMade, with_matrix}
use Rattle.paths.proofs.Sizes.{lanes_fit}
use Rattle.paths.proofs.Answering.{drop_further}
use Rattle.paths.proofs.queries.fill_matrix.Goals as goal

-- the table that is walked is the one that was sorted
module _ {x y : Table} (e : x ≡ y) where
  room_of : (s : List ℤ) → ScratchRoom y.board s → ScratchRoom x.board s
  room_of s = subst (λ (t : Table). ScratchRoom t.board s) (sym e)

  bounds_of : (d : List ℤ) → y.board.outputs * y.board.inputs ≤ length d → x.board.outputs * x.board.inputs ≤ length d
  bounds_of d = subst (λ (t : Table). t.board.outputs * t.board.inputs ≤ length d) (sym e)

pub fill_rows-requires-clause-room : goal.fill_rows-requires-clause-room
fill_rows-requires-clause-room c =
    let b = c.over-walk.result.table.board in
    omega (arith, room_of c.over-walk.ensures _ c.requires.scratch_room, lanes_fit b.vertices 4 (omega arith), c.loop-four.invariant.long)

pub fill_rows-requires-clause-destination_room : goal.fill_rows-requires-clause-destination_room
fill_rows-requires-clause-destination_room c = omega (arith, bounds_of c.over-walk.ensures _ c.requires.inputs_in_bounds, c.loop-four.auto.destination)

pub loop-four-preserved : goal.loop-four-preserved
loop-four-preserved c =
    let b = c.over-walk.result.table.board in
    let i = 4 * c.loop-four.four in
    let e : i + 4 ≡ 4 * (c.loop-four.four + 1) = omega arith in
    record {
      long = c.fill_rows.auto.scratch ∙ c.loop-four.invariant.long;
      past = drop_further (b.vertices * 4) (scratch_cells b.vertices) c.loop-four.scratch c.fill_rows.new.scratch (lanes_fit b.vertices 4 (omega arith)) c.fill_rows.ensures.past ∙ c.loop-four.invariant.past;
      made = subst (λ (k : ℕ). of_table RowsMade c.over-walk.result.table 0 k c.args.destination.now c.fill_rows.new.destination) e (λ d₀ q. c.fill_rows.ensures.rows_made d₀ (c.loop-four.invariant.made d₀ q));
    }

pub fill_rows-requires-in-loop-i-clause-room : goal.fill_rows-requires-in-loop-i-clause-room
fill_rows-requires-in-loop-i-clause-room c =
    let b = c.over-walk.result.table.board in
    omega (arith, room_of c.over-walk.ensures _ c.requires.scratch_room, lanes_fit b.vertices 1 (omega arith), c.loop-i.invariant.long)

pub fill_rows-requires-in-loop-i-clause-destination_room : goal.fill_rows-requires-in-loop-i-clause-destination_room
fill_rows-requires-in-loop-i-clause-destination_room c = omega (arith, bounds_of c.over-walk.ensures _ c.requires.inputs_in_bounds, c.loop-i.auto.destination, c.loop-four.auto.destination)

pub loop-i-preserved : goal.loop-i-preserved
loop-i-preserved c =
    let b = c.over-walk.result.table.board in
    record {
      long = c.fill_rows-in-loop-i.auto.scratch ∙ c.loop-i.invariant.long;
      past = drop_further (b.vertices * 1) (scratch_cells b.vertices) c.loop-i.scratch c.fill_rows-in-loop-i.new.scratch (lanes_fit b.vertices 1 (omega arith)) c.fill_rows-in-loop-i.ensures.past ∙ c.loop-i.invariant.past;
      made = λ d₀ q. c.fill_rows-in-loop-i.ensures.rows_made d₀ (c.loop-i.invariant.made d₀ q);
    }

pub returns-clause-destination_after : goal.returns-clause-destination_after
unfolding matrix_cells
returns-clause-destination_after c =
    let x = c.over-walk.result.table in
    let d = c.args.destination.now in
    let e : c.loop-i.i ≡ x.board.inputs = omega arith in
    subst (λ (t : Table). c.loop-i.destination ≡ of_table with_matrix t d) c.over-walk.ensures
    (subst (λ (k : ℕ). RowsDone x.board x.cells.now k d c.loop-i.destination) e (c.loop-i.invariant.made d (rows_none x.board.outputs (entry x.board x.cells.now) d)))

pub returns-clause-past_scratch : goal.returns-clause-past_scratch
returns-clause-past_scratch c = subst (λ (t : Table). drop (scratch_cells t.board.vertices) c.loop-i.scratch ≡ drop (scratch_cells t.board.vertices) c.args.scratch.now) c.over-walk.ensures c.loop-i.invariant.past
