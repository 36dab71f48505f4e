use Rattle.std.proofs.Common.{◌≡◌, ◌+◌, ℕ, sym, ap, ◌∙◌, rules, arith}
use Rattle.timing.specs.Refusal.{verdict}
use Rattle.timing.specs.Table.{graph_of}
use Rattle.timing.specs.Delays.{arrival_in}
use Rattle.plans.specs.Comparing.{compared}
use Rattle.plans.proofs.Differences.{seen_none, seen_more, seen_ends, seen_refuses}
use Rattle.run.specs.Sides.{OnSide, across_of, line_of}
use Rattle.run.proofs.Lines.{compared_entry}
use Rattle.run.proofs.NoNumber.{full_passed, full_stays}
use Rattle.run.proofs.Sharing.{pairs_begin, pair_same, pair_tried, pairs_end, sides_end}
use Rattle.run.proofs.Trying.{gained_is}
use Rattle.run.proofs.TriedShares.{share_passed, share_reaches}
use Rattle.run.proofs.shares.shares.Goals as goal
use Rattle.run.proofs.shares.shares.Goals.{then-a-b-via-then-a-b, then-a-b-via-else-a-b+then-not-rich-b, then-a-b-via-else-a-b+else-not-rich-b+then-not-is_open-2, then-j-across, else-j-across+in-Err}

pub returns-then-not-is_open-clause-leads : goal.returns-then-not-is_open-clause-leads
returns-then-not-is_open-clause-leads g c =
    let a = c.args in
    full_stays a.board a.table.now g.S.Side.side a.steps c.requires.running (c.is_open.ensures a.board a.table.now c.begin.ensures c.if-not-is_open.true)

pub seconds-init : goal.seconds-init
seconds-init g c =
    let h = c.firsts.invariant in
    let side = g.S.Side.side in
    let on : OnSide c.args.board side c.firsts.a = record { from = omega arith; below = omega arith } in
    record { sharing = rw c.first-from.ensures (pairs_begin side c.firsts.a on h.sharing); known = h.known; counted = h.counted }

-- a, b are the same, or b has too few arcs, or no number is free
pub seconds-preserved-then-a-b : goal.seconds-preserved-then-a-b
seconds-preserved-then-a-b g c =
    let h = c.seconds.invariant in
    let b = c.args.board in
    let t = c.seconds.table in
    let side = g.S.Side.side in
    let done = c.seconds.done in
    let on : OnSide b side c.seconds.b = record { from = omega arith; below = omega arith } in
    record {
      sharing = elim c.then-a-b.branch [
        | then-a-b-via-then-a-b w ↦ pair_same side c.firsts.a c.seconds.b on w.if-a-b.true h.sharing
        | then-a-b-via-else-a-b+then-not-rich-b w ↦ pair_tried side c.firsts.a c.seconds.b on w.if-a-b.false h.sharing t done
            (share_passed b t side c.firsts.a c.seconds.b done h.sharing.running (sym (h.counted.each c.seconds.b on) ∙ w.if-not-rich-b.true))
        | then-a-b-via-else-a-b+else-not-rich-b+then-not-is_open-2 w ↦ pair_tried side c.firsts.a c.seconds.b on w.if-a-b.false h.sharing t done
            (full_passed b t side c.firsts.a c.seconds.b done h.sharing.running (w.is_open-else-not-rich-b.ensures b t h.known w.if-not-is_open-2.true))
      ];
      known = h.known;
      counted = h.counted;
    }

pub compare-init : goal.compare-init
compare-init g c = record { inside = omega arith; compared = seen_none _ _ }

pub compare-preserved : goal.compare-preserved
compare-preserved g c =
    let side = g.S.Side.side in
    let M = c.args.matrix.now in
    let on_a : OnSide c.args.board side c.firsts.a = record { from = omega arith; below = omega arith } in
    let on_b : OnSide c.args.board side c.seconds.b = record { from = omega arith; below = omega arith } in
    let now : c.seen_next.result ≡ compared c.compare.seen (arrival_in M c.place.result) (arrival_in M c.place-in-compare.result) = search rules in
    let said = compared_entry c.seconds.invariant.sharing.held side c.firsts.a c.seconds.b c.compare.j on_a on_b (omega arith) c.place.result c.place-in-compare.result c.place.ensures c.place-in-compare.ensures c.compare.seen now in
    record { inside = omega arith; compared = sym c.in-Ok.is ∙ said ∙ seen_more _ _ c.compare.j c.compare.seen c.compare.invariant.compared }

-- where the ways out of the comparison meet, its answer
pub try_share-accepted-requires-clause-difference_value : goal.try_share-accepted-requires-clause-difference_value
try_share-accepted-requires-clause-difference_value g c =
    let side = g.S.Side.side in
    let b = c.args.board in
    let M = c.args.matrix.now in
    let x = line_of side b.inputs b.vertices (graph_of b.vertices c.seconds.table) c.firsts.a in
    let y = line_of side b.inputs b.vertices (graph_of b.vertices c.seconds.table) c.seconds.b in
    let total = across_of side b.inputs b.outputs in
    let on_a : OnSide b side c.firsts.a = record { from = omega arith; below = omega arith } in
    let on_b : OnSide b side c.seconds.b = record { from = omega arith; below = omega arith } in
    elim c.if-j-across.branch [
      | then-j-across w ↦ ap verdict (w.difference-is ∙ w.ok_or-difference.ensures.value) ∙ seen_ends x y c.compare.j total c.compare.seen c.compare.invariant.compared (omega arith)
      | else-j-across+in-Err w ↦
          let now : w.seen_next.result ≡ compared c.compare.seen (arrival_in M w.place.result) (arrival_in M w.place-in-compare.result) = search rules in
          let said = compared_entry c.seconds.invariant.sharing.held side c.firsts.a c.seconds.b c.compare.j on_a on_b (omega arith) w.place.result w.place-in-compare.result w.place.ensures w.place-in-compare.ensures c.compare.seen now in
          ap verdict w.difference-is ∙ seen_refuses x y c.compare.j total c.compare.seen w.in-Err.refusal c.compare.invariant.compared (omega arith) (sym w.in-Err.is ∙ said)
    ]

pub seconds-preserved : goal.seconds-preserved
seconds-preserved g c =
    let h = c.seconds.invariant in
    let b = c.args.board in
    let side = g.S.Side.side in
    let new = c.try_share-accepted in
    let on : OnSide b side c.seconds.b = record { from = omega arith; below = omega arith } in
    let e = ap (λ (x : ℕ). c.seconds.done + x) (c.from-done.ensures ∙ gained_is new.result) in
    record {
      sharing = pair_tried side c.firsts.a c.seconds.b on c.if-a-b.false h.sharing new.new.table (c.seconds.done + c.from-done.result)
          (share_reaches b c.seconds.table side c.firsts.a c.seconds.b c.seconds.done h.sharing.running new.new.table new.result new.ensures.tries_share _ e);
      known = new.ensures.still_known;
      counted = new.ensures.still_counted;
    }

pub firsts-preserved : goal.firsts-preserved
firsts-preserved g c =
    let h = c.seconds.invariant in
    record { sharing = pairs_end g.S.Side.side c.firsts.a c.seconds.b (omega arith) h.sharing; known = h.known; counted = h.counted }

pub returns-clause-leads : goal.returns-clause-leads
returns-clause-leads g c = sides_end g.S.Side.side c.firsts.a (omega arith) c.firsts.invariant.sharing
