use Rattle.std.proofs.Common.{◌≡◌, ◌≤◌, length, sym, ◌∙◌, arith, inl, inr}
use mathlib.Core.Path.{subst}
use Rattle.timing.specs.Table.{graph_of}
use Rattle.paths.specs.Tables.{of_table}
use Rattle.paths.specs.declared.table.Table.{Table}
use Rattle.paths.specs.Arrivals.{filled, Given, arrivals_from}
use Rattle.paths.proofs.Sizes.{lanes_fit}
use Rattle.paths.proofs.Starting.{filled-drop}
use Rattle.paths.proofs.Answering.{drop_further}
use Rattle.paths.proofs.ArrivalLists.{lists_refused, lists_done, given_of, copied}
use Rattle.paths.proofs.queries.arrivals_answer.Goals as goal

pub returns-then-not-times_fit-clause-fills : goal.returns-then-not-times_fit-clause-fills
returns-then-not-times_fit-clause-fills c = lists_refused _ _ _ _ _ _ (inl (sym c.times_fit.ensures ∙ c.if-not-times_fit.true))

pub returns-then-answers-board-clause-fills : goal.returns-then-answers-board-clause-fills
returns-then-answers-board-clause-fills c = lists_refused _ _ _ _ _ _ (inr c.if-answers-board.true)

pub arrivals-requires-clause-given : goal.arrivals-requires-clause-given
arrivals-requires-clause-given c =
    subst (λ (x : Table). Given x.board.inputs c.args.given.now) (sym c.over.ensures) (given_of _ _ (sym c.times_fit.ensures ∙ c.if-not-times_fit.false))

pub arrivals-requires-clause-vertices_in_bounds : goal.arrivals-requires-clause-vertices_in_bounds
arrivals-requires-clause-vertices_in_bounds c =
    subst (λ (x : Table). x.board.vertices ≤ length c.args.scratch.now) (sym c.over.ensures) (omega (arith, c.requires, lanes_fit c.args.sorted.now.table.board.vertices 1 (omega arith)))

pub copy_out-requires : goal.copy_out-requires
copy_out-requires c =
    let b = c.args.sorted.now.table.board in
    omega (arith, c.if-answers-board.false, c.arrivals.auto.f, b.sized.roles, c.requires, lanes_fit b.vertices 1 (omega arith))

pub returns-clause-fills : goal.returns-clause-fills
returns-clause-fills c =
    let x = c.args.sorted.now.table in
    let b = x.board in
    let f = c.args.scratch.now in
    let fit = sym c.times_fit.ensures ∙ c.if-not-times_fit.false in
    let are = subst (λ (y : Table). c.arrivals.new.f ≡ filled y.board.vertices (of_table arrivals_from y c.args.given.now) f) c.over.ensures c.arrivals.ensures in
    lists_done _ _ _ _ _ _ fit c.if-answers-board.false _ (c.copy_out.ensures ∙ copied b c.args.given.now f c.arrivals.new.f (graph_of b.vertices x.cells.now) _ b.sized.roles c.if-answers-board.false are)

pub returns-clause-past_scratch : goal.returns-clause-past_scratch
returns-clause-past_scratch c =
    let x = c.args.sorted.now.table in
    let b = x.board in
    let f = c.args.scratch.now in
    let are = subst (λ (y : Table). c.arrivals.new.f ≡ filled y.board.vertices (of_table arrivals_from y c.args.given.now) f) c.over.ensures c.arrivals.ensures in
    drop_further b.vertices _ f c.arrivals.new.f (omega (arith, lanes_fit b.vertices 1 (omega arith))) (filled-drop b.vertices (of_table arrivals_from x c.args.given.now) f c.arrivals.new.f are)
