use Rattle.std.proofs.Common.{◌≡◌, ◌≤◌, ℕ, List, ℤ, length, sym, ◌∙◌, arith}
use mathlib.Core.Path.{subst}
use Rattle.graph.specs.Delay.{◌⊖◌}
use Rattle.timing.specs.Delays.{arrival_in}
use Rattle.timing.specs.Margins.{Times, cells}
use Rattle.paths.specs.Tables.{of_table}
use Rattle.paths.specs.declared.table.Table.{Table}
use Rattle.paths.specs.Arrivals.{filled, Given, arrivals_from}
use Rattle.paths.specs.Margins.{InReach, lists, required_from}
use Rattle.paths.proofs.Tables.{passable}
use Rattle.paths.proofs.MarginTimes.{Fitting, fitting, filled_whole, arrivals_reach, required_reach, margins_are, margins_refused, margins_done}
use Rattle.paths.proofs.margins.margins_answer.Goals as goal

cells_of : {k k' : ℕ} {x x' y y' : List ℤ} → k ≡ k' → x ≡ x' → y ≡ y' → cells k (λ v. arrival_in x v ⊖ arrival_in y v) ≡ cells k' (λ v. arrival_in x' v ⊖ arrival_in y' v)
cells_of p c r = λ i. cells (p i) (λ v. arrival_in (c i) v ⊖ arrival_in (r i) v)

-- the table x that is walked is y, which was sorted
module _ {x y : Table} (e : x ≡ y) (given due : List ℤ) {before : Times} (F : Fitting y.board given due before) where
  arrivals_are : (f₀ : List ℤ) {f : List ℤ} → length f₀ ≡ y.board.vertices → f ≡ filled x.board.vertices (of_table arrivals_from x given) f₀ → f ≡ cells y.board.vertices (of_table arrivals_from y given)
  arrivals_are f₀ {f} long h =
      subst (λ (t : Table). f ≡ filled t.board.vertices (of_table arrivals_from t given) f₀) e h ∙ filled_whole y.board.vertices (of_table arrivals_from y given) f₀ long

  required_are : {f : List ℤ} → f ≡ cells x.board.vertices (of_table required_from x due) → f ≡ cells y.board.vertices (of_table required_from y due)
  required_are {f} = subst (λ (t : Table). f ≡ cells t.board.vertices (of_table required_from t due)) e

pub returns-then-not-lists_fit : goal.returns-then-not-lists_fit
returns-then-not-lists_fit c = margins_refused c.args.sorted.now.table.board c.args.sorted.now.table.cells.now c.args.given.now c.args.due.now _ (sym c.lists_fit.ensures ∙ c.if-not-lists_fit.true)

pub arrivals-requires-clause-given : goal.arrivals-requires-clause-given
arrivals-requires-clause-given c =
    let F = fitting c.args.sorted.now.table.board c.args.given.now c.args.due.now (lists c.args.arrival.now c.args.required.now c.args.margin.now) (sym c.lists_fit.ensures ∙ c.if-not-lists_fit.false) in
    subst (λ (x : Table). Given x.board.inputs c.args.given.now) (sym c.over-walk.ensures) F.arrivals

pub arrivals-requires-clause-vertices_in_bounds : goal.arrivals-requires-clause-vertices_in_bounds
arrivals-requires-clause-vertices_in_bounds c =
    let F = fitting c.args.sorted.now.table.board c.args.given.now c.args.due.now (lists c.args.arrival.now c.args.required.now c.args.margin.now) (sym c.lists_fit.ensures ∙ c.if-not-lists_fit.false) in
    subst (λ (x : Table). x.board.vertices ≤ length c.args.arrival.now) (sym c.over-walk.ensures) (omega (arith, F.arrival))

pub required_times-requires-clause-given : goal.required_times-requires-clause-given
required_times-requires-clause-given c =
    let F = fitting c.args.sorted.now.table.board c.args.given.now c.args.due.now (lists c.args.arrival.now c.args.required.now c.args.margin.now) (sym c.lists_fit.ensures ∙ c.if-not-lists_fit.false) in
    subst (λ (x : Table). Given x.board.outputs c.args.due.now) (sym c.over-walk.ensures) F.required_times

pub required_times-requires-clause-required_len : goal.required_times-requires-clause-required_len
required_times-requires-clause-required_len c =
    let F = fitting c.args.sorted.now.table.board c.args.given.now c.args.due.now (lists c.args.arrival.now c.args.required.now c.args.margin.now) (sym c.lists_fit.ensures ∙ c.if-not-lists_fit.false) in
    subst (λ (x : Table). length c.args.required.now ≡ x.board.vertices) (sym c.over-walk.ensures) F.required

pub fill_margins-requires-clause-in_reach : goal.fill_margins-requires-clause-in_reach
fill_margins-requires-clause-in_reach c =
    let s = c.args.sorted.now in
    let F = fitting c.args.sorted.now.table.board c.args.given.now c.args.due.now (lists c.args.arrival.now c.args.required.now c.args.margin.now) (sym c.lists_fit.ensures ∙ c.if-not-lists_fit.false) in
    let are = required_are c.over-walk.ensures c.args.given.now c.args.due.now F c.required_times.ensures in
    subst (λ (k : ℕ). InReach k c.required_times.new.required) (sym F.margin) (subst (InReach s.table.board.vertices) (sym are) (required_reach (passable s).checked c.args.given.now c.args.due.now F.arrivals F.required_times))

pub fill_margins-requires-clause-arrival_in_reach : goal.fill_margins-requires-clause-arrival_in_reach
fill_margins-requires-clause-arrival_in_reach c =
    let s = c.args.sorted.now in
    let F = fitting c.args.sorted.now.table.board c.args.given.now c.args.due.now (lists c.args.arrival.now c.args.required.now c.args.margin.now) (sym c.lists_fit.ensures ∙ c.if-not-lists_fit.false) in
    let are = arrivals_are c.over-walk.ensures c.args.given.now c.args.due.now F c.args.arrival.now F.arrival c.arrivals.ensures in
    subst (λ (k : ℕ). InReach k c.arrivals.new.f) (sym F.margin) (subst (InReach s.table.board.vertices) (sym are) (arrivals_reach (passable s).checked c.args.given.now c.args.due.now F.arrivals F.required_times))

pub returns : goal.returns
returns c =
    let s = c.args.sorted.now in
    let b = s.table.board in
    let t = s.table.cells.now in
    let given = c.args.given.now in
    let due = c.args.due.now in
    let fit = sym c.lists_fit.ensures ∙ c.if-not-lists_fit.false in
    let F = fitting b given due (lists c.args.arrival.now c.args.required.now c.args.margin.now) fit in
    let arrivals = arrivals_are c.over-walk.ensures given due F c.args.arrival.now F.arrival c.arrivals.ensures in
    let required = required_are c.over-walk.ensures given due F c.required_times.ensures in
    margins_done b t given due _ fit _ _ _ arrivals required (c.fill_margins.ensures ∙ cells_of F.margin required arrivals ∙ margins_are (passable s).checked given due F.arrivals F.required_times)
