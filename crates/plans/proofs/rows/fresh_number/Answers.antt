use Rattle.std.proofs.Common.{sym, ◌∙◌, arith}
use Rattle.timing.specs.Table.{graph_of}
use Rattle.plans.proofs.FreshNumber.{fresh_found, fresh_none}
use Rattle.plans.proofs.rows.fresh_number.Goals as goal

pub returns-then-is_free : goal.returns-then-is_free
returns-then-is_free c =
    let b = c.args.table.now.board in
    (fresh_found b.inputs b.outputs b.vertices (graph_of b.vertices c.args.table.now.cells.now) c.loop-k.k c.loop-k.auto.k c.loop-k-test.true c.loop-k.invariant (sym c.if-is_free.true ∙ c.is_free.ensures), c.loop-k-test.true)

pub returns : goal.returns
returns c =
    let b = c.args.table.now.board in
    let none = fresh_none b.inputs b.outputs b.vertices (graph_of b.vertices c.args.table.now.cells.now) c.args.table.now.board.sized.roles (λ x h. c.loop-k.invariant x (omega (arith, h, c.loop-k-test.false))) in
    omega (arith, none)
