use Rattle.std.proofs.Common.{◌≡◌, ◌<◌, Some, sym, ap, ◌∙◌}
use mathlib.Core.Path.{subst}
use Rattle.reduction.proofs.FindStar.{none_free}
use Rattle.paths.specs.declared.board.Board.{Board}
use Rattle.paths.specs.declared.table.Table.{Table}
use Rattle.paths.specs.Board.{graph_in}
use Rattle.paths.specs.Tables.{timing_graph, of_table}
use Rattle.plans.specs.OnBoards.{fresh_on}
use Rattle.finder.specs.Finding.{find_star_on, BlockOf}
use Rattle.finder.proofs.Making.{none_made, vertex_below, found_ready, found_made}
use Rattle.finder.proofs.Sources.{all_empty}
use Rattle.finder.proofs.best.make_star.Goals as goal
use Rattle.finder.proofs.best.make_star.Goals.{After-finder-4-1, After-fill}

pub returns-in_default : goal.returns-in_default
returns-in_default c =
    let b = c.args.board in
    none_made b c.args.table.now (none_free b.inputs b.outputs b.vertices (graph_in b c.args.table.now) c.in_default.ensures)

-- the finder's table is the one that is lent
module _ (c : After-finder-4-1) where
  board_is : c.in-Some.finder.table.board ≡ c.args.board
  board_is = ap (λ (x : Table). x.board) c.in-Some.ensures

  graph_is : timing_graph c.in-Some.finder.table ≡ graph_in c.args.board c.args.table.now
  graph_is = ap timing_graph c.in-Some.ensures

  best_is : find_star_on c.args.board c.args.table.now ≡ Some (record { vertex = c.in-Some-best.found.vertex; saving = c.in-Some-best.found.saving })
  best_is = sym (c.in-Some-best.ensures ∙ ap (of_table find_star_on) c.in-Some.ensures)

  centre_is : c.in-Some.finder.centre ≡ fresh_on c.args.board c.args.table.now
  centre_is = c.in-Some.finder.free.0 ∙ ap (of_table fresh_on) c.in-Some.ensures

  below : c.in-Some-best.found.vertex < c.in-Some.finder.table.board.vertices
  below = subst (λ (b : Board). c.in-Some-best.found.vertex < b.vertices) (sym board_is) (vertex_below c.args.board c.args.table.now _ best_is)

pub others-requires : goal.others-requires
others-requires c = below c

pub fill-requires-clause-a_lt_vertices : goal.fill-requires-clause-a_lt_vertices
fill-requires-clause-a_lt_vertices c = below (goal.at.fill-requires-clause-a_lt_vertices c).After-finder-4-1

module _ (c : After-fill) where
  abbrev first : After-finder-4-1
  first = (goal.at.After-fill c).After-finder-4-1

  block_of : BlockOf c.args.board.vertices (graph_in c.args.board c.args.table.now) c.in-Some-best.found.vertex c.fill.new.block
  block_of = subst (λ (x : Table). BlockOf x.board.vertices (timing_graph x) c.in-Some-best.found.vertex c.fill.new.block) c.in-Some.ensures c.fill.ensures

pub star_apply-requires-clause-star_ready_on : goal.star_apply-requires-clause-star_ready_on
star_apply-requires-clause-star_ready_on c =
    let d = (goal.at.star_apply-requires-clause-star_ready_on c).After-fill in
    rw ((block_of d).sources, (block_of d).targets, centre_is (first d)) (found_ready c.args.board c.args.table.now _ (best_is (first d)) c.requires)

pub returns : goal.returns
returns c =
    let d = (goal.at.returns c).After-fill in
    found_made c.args.board c.args.table.now _ (best_is (first d)) c.star_apply.new.table (rw ((block_of d).sources, (block_of d).targets, centre_is (first d)) at c.star_apply.ensures)

pub over-requires-clause-none : goal.over-requires-clause-none
over-requires-clause-none c = all_empty c.empty-sources.result c.empty-sources.ensures 90

pub shared_ref_as_front-sources : goal.shared_ref_as_front-sources
shared_ref_as_front-sources c = c.fill.ensures.few_sources

pub shared_ref_as_front-targets : goal.shared_ref_as_front-targets
shared_ref_as_front-targets c = c.fill.ensures.few_targets
