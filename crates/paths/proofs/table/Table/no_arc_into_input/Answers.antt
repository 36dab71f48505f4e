use Rattle.std.proofs.Common.{sym, ◌∙◌, arith, below_more}
use Rattle.paths.specs.Board.{graph_in}
use Rattle.paths.proofs.Inputs.{arc_found, none_found}
use Rattle.paths.proofs.Rows.{row_counted}
use Rattle.paths.proofs.table.Table.no_arc_into_input.Goals as goal

pub returns-then-count-ne0 : goal.returns-then-count-ne0
returns-then-count-ne0 c =
    let e = row_counted c.args.self.now.board.vertices c.args.self.now.board.inputs c.args.self.now.cells.now c.loop-u.u c.loop-u-test.true (omega arith) in
    sym (arc_found c.args.self.now.board.inputs c.args.self.now.board.vertices (graph_in c.args.self.now.board c.args.self.now.cells.now) c.loop-u.u c.loop-u-test.true (λ z. c.if-count-ne0.true (c.count.ensures ∙ e ∙ z)))

pub loop-u-preserved : goal.loop-u-preserved
loop-u-preserved c =
    let e = row_counted c.args.self.now.board.vertices c.args.self.now.board.inputs c.args.self.now.cells.now c.loop-u.u c.loop-u-test.true (omega arith) in
    below_more _ _ c.loop-u.invariant (sym e ∙ sym c.count.ensures ∙ c.if-count-ne0.false)

pub returns : goal.returns
returns c = sym (none_found _ _ _ (λ k l. c.loop-u.invariant k (omega arith)))
