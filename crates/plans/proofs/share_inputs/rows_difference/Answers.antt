use Rattle.std.proofs.Common.{◌≡◌, ◌+◌, ◌<◌, ◌≤◌, ℕ, List, ℤ, ◌∙◌, sym, length, drop, arith}
use mathlib.Core.Path.{subst}
use Rattle.timing.specs.Limits.{scratch_cells}
use Rattle.timing.specs.Refusal.{verdict}
use Rattle.paths.specs.declared.table.Table.{Table}
use Rattle.paths.specs.Board.{ScratchRoom, PastScratch}
use Rattle.paths.specs.Tables.{of_table}
use Rattle.paths.proofs.Sizes.{lanes_fit}
use Rattle.paths.proofs.Answering.{drop_further}
use Rattle.paths.proofs.Tables.{walk_passable}
use Rattle.plans.specs.OnBoards.{rows_difference}
use Rattle.plans.proofs.Vectors.{both_vectors, both_past, both_common}
use Rattle.plans.proofs.share_inputs.rows_difference.Goals as goal

-- the table x that is walked is y, which was sorted
module _ {x y : Table} (e : x ≡ y) where
  room_of : (s : List ℤ) → ScratchRoom y.board s → x.board.vertices + x.board.vertices ≤ length s
  room_of s h = let r = subst (λ (t : Table). ScratchRoom t.board s) (sym e) h in omega (arith, lanes_fit x.board.vertices 2 (omega arith), r)

  input_of : (i : ℕ) → i < y.board.inputs → i < x.board.inputs
  input_of i = subst (λ (t : Table). i < t.board.inputs) (sym e)

  below_of : (i : ℕ) → i < y.board.inputs → i < x.board.vertices
  below_of i h = omega (arith, input_of i h, x.board.sized.roles)

  past_of : (s s' : List ℤ) → drop (x.board.vertices + x.board.vertices) s' ≡ drop (x.board.vertices + x.board.vertices) s → PastScratch y.board s s'
  past_of s s' h = subst (λ (t : Table). PastScratch t.board s s') e (drop_further (x.board.vertices + x.board.vertices) (scratch_cells x.board.vertices) s s' (omega (arith, lanes_fit x.board.vertices 2 (omega arith))) h)

pub delays_from-requires-clause-i_lt_vertices : goal.delays_from-requires-clause-i_lt_vertices
delays_from-requires-clause-i_lt_vertices c = below_of c.over-walk.ensures c.args.a c.requires.a_lt_inputs

pub delays_from-requires-clause-vertices_in_bounds : goal.delays_from-requires-clause-vertices_in_bounds
delays_from-requires-clause-vertices_in_bounds c = omega (arith, room_of c.over-walk.ensures c.args.scratch.now c.requires.scratch_room)

pub outputs_difference-requires : goal.outputs_difference-requires
outputs_difference-requires c =
    let e = c.over-walk.ensures in
    both_vectors (walk_passable c.over-walk.result) c.args.a c.args.b (below_of e c.args.a c.requires.a_lt_inputs) (below_of e c.args.b c.requires.b_lt_inputs) c.args.scratch.now c.delays_from.new.f c.delays_from-2.new.f (room_of e c.args.scratch.now c.requires.scratch_room) c.delays_from.ensures c.delays_from-2.ensures

pub returns-clause-result_value : goal.returns-clause-result_value
returns-clause-result_value c =
    let e = c.over-walk.ensures in
    subst (λ (t : Table). verdict c.outputs_difference.result ≡ of_table rows_difference t c.args.a c.args.b) e
    (c.outputs_difference.ensures
    ∙ both_common (walk_passable c.over-walk.result) c.args.a c.args.b (below_of e c.args.a c.requires.a_lt_inputs) (below_of e c.args.b c.requires.b_lt_inputs) c.args.scratch.now c.delays_from.new.f c.delays_from-2.new.f (room_of e c.args.scratch.now c.requires.scratch_room) c.delays_from.ensures c.delays_from-2.ensures
    (input_of e c.args.a c.requires.a_lt_inputs) (input_of e c.args.b c.requires.b_lt_inputs))

pub returns-clause-past_scratch : goal.returns-clause-past_scratch
returns-clause-past_scratch c =
    let e = c.over-walk.ensures in
    past_of e c.args.scratch.now _
    (both_past (walk_passable c.over-walk.result) c.args.a c.args.b (below_of e c.args.a c.requires.a_lt_inputs) (below_of e c.args.b c.requires.b_lt_inputs) c.args.scratch.now c.delays_from.new.f c.delays_from-2.new.f (room_of e c.args.scratch.now c.requires.scratch_room) c.delays_from.ensures c.delays_from-2.ensures)
