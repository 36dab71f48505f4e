use Rattle.std.proofs.Common.{◌≡◌, ◌+◌, ◌*◌, ◌≤◌, ℕ, List, ℤ, Bool, length, refl, sym, subst, ◌∙◌, arith}
use Rattle.timing.specs.Limits.{scratch_cells}
use Rattle.paths.specs.declared.table.Table.{Table}
use Rattle.paths.specs.Board.{ScratchRoom, PastScratch}
use Rattle.paths.specs.Tables.{of_table}
use Rattle.paths.proofs.Answering.{drop_further}
use Rattle.paths.proofs.Sizes.{lanes_fit}
use Rattle.pruning.specs.PruneMarks.{AlsoMarked, DecidingMarked}
use Rattle.pruning.proofs.Marking.{decider, decides_below, none_yet, more, all_inputs}
use Rattle.pruning.proofs.prune.prune_marks.Goals as goal

-- the table x that is walked is y, which was sorted
module _ {x y : Table} (e : x ≡ y) where
  room_of : (s : List ℤ) → ScratchRoom y.board s → ScratchRoom x.board s
  room_of s = subst (λ (t : Table). ScratchRoom t.board s) (sym e)

  marks_of : (m : List Bool) → y.board.vertices * y.board.vertices ≤ length m → x.board.vertices * x.board.vertices ≤ length m
  marks_of m = subst (λ (t : Table). t.board.vertices * t.board.vertices ≤ length m) (sym e)

pub loop-four-init : goal.loop-four-init
loop-four-init c = let x = c.over-walk.result.table in record { past = refl; marked = none_yet x.board.vertices (decider x.board x.cells.now) c.args.marks.now }

pub mark_from-requires-clause-f_room : goal.mark_from-requires-clause-f_room
mark_from-requires-clause-f_room c =
    omega (arith, room_of c.over-walk.ensures c.args.scratch.now c.requires.scratch_room, lanes_fit c.over-walk.result.table.board.vertices 4 (omega arith), c.loop-four.auto.scratch)

pub mark_from-requires-clause-marks_room : goal.mark_from-requires-clause-marks_room
mark_from-requires-clause-marks_room c = omega (arith, marks_of c.over-walk.ensures c.args.marks.now c.requires.marks_room, c.loop-four.auto.marks)

pub loop-four-preserved : goal.loop-four-preserved
loop-four-preserved c =
    let x = c.over-walk.result.table in
    let b = x.board in
    let n = b.vertices in
    let l = c.loop-four in
    let k = c.mark_from in
    let next : 4 * l.four + 4 ≡ 4 * (l.four + 1) = omega arith in
    record {
      past = drop_further (n * 4) (scratch_cells n) l.scratch k.new.f (lanes_fit n 4 (omega arith)) k.ensures.past ∙ l.invariant.past;
      marked = subst (λ (j : ℕ). AlsoMarked n (decides_below b x.cells.now j) c.args.marks.now k.new.marks) next
          (more n (decider b x.cells.now) c.args.marks.now l.marks k.new.marks (4 * l.four) 4 l.invariant.marked k.ensures.marked_each);
    }

pub mark_from-requires-in-loop-i-clause-f_room : goal.mark_from-requires-in-loop-i-clause-f_room
mark_from-requires-in-loop-i-clause-f_room c =
    omega (arith, room_of c.over-walk.ensures c.args.scratch.now c.requires.scratch_room, lanes_fit c.over-walk.result.table.board.vertices 1 (omega arith), c.loop-i.auto.scratch, c.loop-four.auto.scratch)

pub mark_from-requires-in-loop-i-clause-marks_room : goal.mark_from-requires-in-loop-i-clause-marks_room
mark_from-requires-in-loop-i-clause-marks_room c = omega (arith, marks_of c.over-walk.ensures c.args.marks.now c.requires.marks_room, c.loop-i.auto.marks, c.loop-four.auto.marks)

pub loop-i-preserved : goal.loop-i-preserved
loop-i-preserved c =
    let x = c.over-walk.result.table in
    let b = x.board in
    let n = b.vertices in
    let l = c.loop-i in
    let k = c.mark_from-in-loop-i in
    record {
      past = drop_further (n * 1) (scratch_cells n) l.scratch k.new.f (lanes_fit n 1 (omega arith)) k.ensures.past ∙ l.invariant.past;
      marked = more n (decider b x.cells.now) c.args.marks.now l.marks k.new.marks l.i 1 l.invariant.marked k.ensures.marked_each;
    }

pub returns-clause-deciding_marked : goal.returns-clause-deciding_marked
returns-clause-deciding_marked c =
    let x = c.over-walk.result.table in
    subst (λ (t : Table). of_table DecidingMarked t c.args.marks.now c.loop-i.marks) c.over-walk.ensures (all_inputs x.board x.cells.now c.args.marks.now c.loop-i.marks c.loop-i.i (omega arith) c.loop-i.invariant.marked)

pub returns-clause-past_scratch : goal.returns-clause-past_scratch
returns-clause-past_scratch c = subst (λ (t : Table). PastScratch t.board c.args.scratch.now c.loop-i.scratch) c.over-walk.ensures c.loop-i.invariant.past
