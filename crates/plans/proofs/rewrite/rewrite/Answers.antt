use Rattle.std.proofs.Common.{◌≡◌, arith}
use Rattle.laws.proofs.Filling.{rows_none, row_back}
use Rattle.timing.specs.Table.{graph_of, with_graph}
use Rattle.plans.specs.Rewritten.{new_cell}
use Rattle.plans.proofs.CopiedRow.{row_of}
use Rattle.plans.proofs.rewrite.rewrite.Goals as goal

pub loop-u-init : goal.loop-u-init
loop-u-init g c = rows_none _ _ _

pub rewrite_row-requires : goal.rewrite_row-requires
rewrite_row-requires g c =
    let n = c.args.board.vertices in
    let t = c.args.table.now in
    let new = new_cell (g.R.Rewriting.rewritten c.args.how.now (graph_of n t)) in
    let inside = c.origin.ensures.below n t c.requires.rewritable in
    (n, t, c.requires.rewritable, row_of c.args.board.sized.few c.requires.lent new _ c.origin.result c.loop-u.u inside c.origin.ensures.value c.row.ensures c.row_copy-via.ensures c.loop-u-test.true c.loop-u.invariant)

pub loop-u-preserved : goal.loop-u-preserved
loop-u-preserved g c =
    let n = c.args.board.vertices in
    let t = c.args.table.now in
    let new = new_cell (g.R.Rewriting.rewritten c.args.how.now (graph_of n t)) in
    let inside = c.origin.ensures.below n t c.requires.rewritable in
    row_back n new t c.loop-u.table c.loop-u.u c.loop-u.invariant c.rewrite_row.new.row
    (c.rewrite_row.ensures n t c.requires.rewritable (row_of c.args.board.sized.few c.requires.lent new _ c.origin.result c.loop-u.u inside c.origin.ensures.value c.row.ensures c.row_copy-via.ensures c.loop-u-test.true c.loop-u.invariant))

pub returns : goal.returns
unfolding with_graph
returns g c =
    let e : c.loop-u.u ≡ c.args.board.vertices = omega arith in
    rw e at c.loop-u.invariant
