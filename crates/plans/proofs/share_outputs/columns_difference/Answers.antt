use Rattle.paths.proofs.Tables.{walk_passable}
use Rattle.std.proofs.Common.{◌≡◌, ◌≤◌, ◌<◌, sym, T, ℕ, ℤ, List, Ok, Err, Option, pos, get_or, length, drop, w64, to_z, of_z, refl, ap, ◌∙◌, rules, arith}
use Rattle.graph.specs.Graph.{longest, walk}
use mathlib.Core.Path.{subst}
use Rattle.timing.specs.Refusal.{verdict, refused, number}
use Rattle.timing.specs.Limits.{arrival_limit, fits}
use Rattle.timing.specs.Table.{graph_of}
use Rattle.timing.specs.Delays.{column, arrival_in}
use Rattle.paths.specs.declared.board.Board.{Board}
use Rattle.paths.specs.Arrivals.{filled}
use Rattle.paths.specs.declared.table.Table.{Table}
use Rattle.paths.specs.Board.{ScratchRoom, PastScratch}
use Rattle.paths.specs.Tables.{of_table}
use Rattle.paths.specs.Checked.{Passable}
use Rattle.paths.proofs.Sizes.{lanes_fit}
use Rattle.paths.proofs.Answering.{drop_further}
use Rattle.paths.proofs.PathDelays.{held_past, held_near, held}
use Rattle.plans.specs.Comparing.{compared}
use Rattle.plans.specs.OnBoards.{columns_difference}
use Rattle.plans.specs.Sharing.{TwoOutputs}
use Rattle.plans.proofs.Differences.{seen_none, seen_more, seen_ends, seen_refuses}
use Rattle.plans.proofs.share_outputs.columns_difference.Goals as goal

-- the delays from input i are in y
module _ {board : Board} {t : List ℤ} {o : List ℕ} (p : Passable board t o) (i : ℕ) (hi : i < board.inputs) (f y : List ℤ) (room : board.vertices ≤ length f)
    (e : y ≡ filled board.vertices (walk (longest (graph_of board.vertices t) board.vertices) i) f) where
  inside : i < board.vertices
  inside = omega (arith, board.sized.roles)

  past : drop board.vertices y ≡ drop board.vertices f
  past = held_past p i inside f y room e

  near : (v : ℕ) → v < board.vertices → T (fits arrival_limit (arrival_in y v))
  near = held_near p i inside f y room e

  there : (v : ℕ) → v < board.vertices → board.inputs ≤ v → arrival_in y v ≡ column board.vertices (graph_of board.vertices t) v i
  there v h no_input = held p i inside f y room e v h (λ q. omega arith)

  -- what is seen with one input more
  seen_by : (a b : ℕ) → a < board.vertices → b < board.vertices → board.inputs ≤ a → board.inputs ≤ b → (s : Option ℤ)
      → compared s (arrival_in y a) (arrival_in y b) ≡ compared s (column board.vertices (graph_of board.vertices t) a i) (column board.vertices (graph_of board.vertices t) b i)
  seen_by a b ha hb na nb s k = compared s (there a ha na k) (there b hb nb k)

-- the table x that is walked is y, which was sorted
two_of : {x y : Table} {a b : ℕ} → x ≡ y → TwoOutputs y.board a b → TwoOutputs x.board a b
two_of {x} {y} {a} {b} e = subst (λ (t : Table). TwoOutputs t.board a b) (sym e)

room_of : {x y : Table} (s : List ℤ) → x ≡ y → ScratchRoom y.board s → x.board.vertices ≤ length s
room_of {x} s e h = let r = subst (λ (t : Table). ScratchRoom t.board s) (sym e) h in omega (arith, lanes_fit x.board.vertices 1 (omega arith), r)

past_of : {x y : Table} (s s' : List ℤ) → x ≡ y → drop x.board.vertices s' ≡ drop x.board.vertices s → PastScratch y.board s s'
past_of {x} s s' e h = subst (λ (t : Table). PastScratch t.board s s') e (drop_further x.board.vertices _ s s' (omega (arith, lanes_fit x.board.vertices 1 (omega arith))) h)

pub compare-init : goal.compare-init
compare-init c = record { within = omega arith; past = refl; said = seen_none _ _ }

pub seen_next-requires-clause-x_fits : goal.seen_next-requires-clause-x_fits
seen_next-requires-clause-x_fits c =
    let x : to_z w64 (of_z w64 (get_or c.delays_from.new.f c.args.a (pos 0))) ≡ get_or c.delays_from.new.f c.args.a (pos 0) = search rules in
    rw x (near (walk_passable c.over-walk.result) c.compare.i (omega arith) c.compare.scratch c.delays_from.new.f (omega (arith, room_of c.args.scratch.now c.over-walk.ensures c.requires.scratch_room, c.compare.auto.scratch)) c.delays_from.ensures c.args.a (two_of c.over-walk.ensures c.requires.two_outputs).below_a)

pub seen_next-requires-clause-y_fits : goal.seen_next-requires-clause-y_fits
seen_next-requires-clause-y_fits c =
    let y : to_z w64 (of_z w64 (get_or c.delays_from.new.f c.args.b (pos 0))) ≡ get_or c.delays_from.new.f c.args.b (pos 0) = search rules in
    rw y (near (walk_passable c.over-walk.result) c.compare.i (omega arith) c.compare.scratch c.delays_from.new.f (omega (arith, room_of c.args.scratch.now c.over-walk.ensures c.requires.scratch_room, c.compare.auto.scratch)) c.delays_from.ensures c.args.b (two_of c.over-walk.ensures c.requires.two_outputs).below_b)

pub compare-preserved : goal.compare-preserved
compare-preserved c =
    let f = c.delays_from.new.f in
    let two = (two_of c.over-walk.ensures c.requires.two_outputs) in
    let said : Ok c.in-Ok.next ≡ compared c.compare.seen (arrival_in f c.args.a) (arrival_in f c.args.b) = search rules in
    record {
      within = omega arith;
      past = past (walk_passable c.over-walk.result) c.compare.i (omega arith) c.compare.scratch f (omega (arith, room_of c.args.scratch.now c.over-walk.ensures c.requires.scratch_room, c.compare.auto.scratch)) c.delays_from.ensures ∙ c.compare.invariant.past;
      said = said ∙ seen_by (walk_passable c.over-walk.result) c.compare.i (omega arith) c.compare.scratch f (omega (arith, room_of c.args.scratch.now c.over-walk.ensures c.requires.scratch_room, c.compare.auto.scratch)) c.delays_from.ensures c.args.a c.args.b two.below_a two.below_b two.no_input_a two.no_input_b c.compare.seen ∙ seen_more _ _ c.compare.i c.compare.seen c.compare.invariant.said;
    }

pub returns-then-i-m-clause-result_value : goal.returns-then-i-m-clause-result_value
returns-then-i-m-clause-result_value c =
    subst (λ (t : Table). verdict c.ok_or.result ≡ of_table columns_difference t c.args.a c.args.b) c.over-walk.ensures (ap verdict c.ok_or.ensures.value ∙ seen_ends _ _ c.compare.i _ c.compare.seen c.compare.invariant.said (omega (arith, c.if-i-m.true, c.compare.invariant.within)))

pub returns-in-Err-clause-result_value : goal.returns-in-Err-clause-result_value
returns-in-Err-clause-result_value c =
    let f = c.delays_from.new.f in
    let two = (two_of c.over-walk.ensures c.requires.two_outputs) in
    let said : Err c.in-Err.refusal ≡ compared c.compare.seen (arrival_in f c.args.a) (arrival_in f c.args.b) = search rules in
    subst (λ (t : Table). refused (number c.in-Err.refusal) ≡ of_table columns_difference t c.args.a c.args.b) c.over-walk.ensures (seen_refuses _ _ c.compare.i _ c.compare.seen _ c.compare.invariant.said (omega arith)
    (said ∙ seen_by (walk_passable c.over-walk.result) c.compare.i (omega arith) c.compare.scratch f (omega (arith, room_of c.args.scratch.now c.over-walk.ensures c.requires.scratch_room, c.compare.auto.scratch)) c.delays_from.ensures c.args.a c.args.b two.below_a two.below_b two.no_input_a two.no_input_b c.compare.seen))

pub returns-then-i-m-clause-past_scratch : goal.returns-then-i-m-clause-past_scratch
returns-then-i-m-clause-past_scratch c = past_of c.args.scratch.now c.compare.scratch c.over-walk.ensures c.compare.invariant.past

pub returns-in-Err-clause-past_scratch : goal.returns-in-Err-clause-past_scratch
returns-in-Err-clause-past_scratch c =
    past_of c.args.scratch.now c.delays_from.new.f c.over-walk.ensures (past (walk_passable c.over-walk.result) c.compare.i (omega arith) c.compare.scratch c.delays_from.new.f (omega (arith, room_of c.args.scratch.now c.over-walk.ensures c.requires.scratch_room, c.compare.auto.scratch)) c.delays_from.ensures ∙ c.compare.invariant.past)

pub delays_from-requires-clause-vertices_in_bounds : goal.delays_from-requires-clause-vertices_in_bounds
delays_from-requires-clause-vertices_in_bounds c = omega (arith, room_of c.args.scratch.now c.over-walk.ensures c.requires.scratch_room, c.compare.auto.scratch)

pub offset_bounds-scratch-a : goal.offset_bounds-scratch-a
offset_bounds-scratch-a c = omega (arith, room_of c.args.scratch.now c.over-walk.ensures c.requires.scratch_room, c.compare.auto.scratch, c.delays_from.auto.f, (two_of c.over-walk.ensures c.requires.two_outputs).below_a)

pub offset_bounds-scratch-b : goal.offset_bounds-scratch-b
offset_bounds-scratch-b c = omega (arith, room_of c.args.scratch.now c.over-walk.ensures c.requires.scratch_room, c.compare.auto.scratch, c.delays_from.auto.f, (two_of c.over-walk.ensures c.requires.two_outputs).below_b)
