use Rattle.std.proofs.Common.{sym, ◌∙◌, arith}
use Rattle.stars.proofs.Members.{below_at, each_pass, each_stop, each_end}
use Rattle.stars.proofs.Sets.{row_wide, joined_row}
use Rattle.stars.proofs.star.all_joined.Goals as goal

pub row-requires : goal.row-requires
row-requires c = below_at c.args.table.now.board.vertices c.args.sources.now c.requires.sources_below c.loop-s.s-index c.loop-s-test.true

pub row_joined-requires : goal.row_joined-requires
row_joined-requires c =
    let n = c.args.table.now.board.vertices in
    let low = below_at n c.args.sources.now c.requires.sources_below c.loop-s.s-index c.loop-s-test.true in
    row_wide n c.args.table.now.cells.now _ _ c.row.ensures low c.args.targets.now c.requires.targets_below c.args.table.now.room

pub returns-then-not-row_joined : goal.returns-then-not-row_joined
returns-then-not-row_joined c =
    let n = c.args.table.now.board.vertices in
    let low = below_at n c.args.sources.now c.requires.sources_below c.loop-s.s-index c.loop-s-test.true in
    sym (each_stop c.args.sources.now c.loop-s.s-index c.loop-s-test.true _
    (sym (joined_row n c.args.table.now.cells.now _ _ c.row.ensures low c.args.targets.now c.requires.targets_below) ∙ sym c.row_joined.ensures ∙ c.if-not-row_joined.true)) ∙ c.loop-s.invariant

pub loop-s-preserved : goal.loop-s-preserved
loop-s-preserved c =
    let n = c.args.table.now.board.vertices in
    let low = below_at n c.args.sources.now c.requires.sources_below c.loop-s.s-index c.loop-s-test.true in
    sym (each_pass c.args.sources.now c.loop-s.s-index c.loop-s-test.true _
    (sym (joined_row n c.args.table.now.cells.now _ _ c.row.ensures low c.args.targets.now c.requires.targets_below) ∙ sym c.row_joined.ensures ∙ c.if-not-row_joined.false)) ∙ c.loop-s.invariant

pub returns : goal.returns
returns c = sym (each_end c.args.sources.now c.loop-s.s-index (omega arith) _) ∙ c.loop-s.invariant
