use Rattle.std.proofs.Common.{ap, ◌∙◌, length, arith, List, ◌++◌, ℕ}
use lib.Seq.{take-suc-set}
use Rattle.laws.specs.Bounded.{those}
use Rattle.sets.specs.Sets.{room, holds}
use Rattle.timing.proofs.Table.{graph_of_within}
use Rattle.paths.specs.Tables.{timing_graph}
use Rattle.finder.proofs.Blocks.{targets_listed, targets_few, sources_listed, sources_few}
use Rattle.finder.proofs.best.Finder.fill.Goals as goal

pub list_members-block-requires : goal.list_members-block-requires
list_members-block-requires c =
    let x = c.args.self.now in
    omega (arith, ap length (sources_listed x.table.board.vertices (timing_graph x.table) c.args.a x.table.board.sized.few c.args.others c.requires.others_of), sources_few x.table.board.vertices (timing_graph x.table) c.args.a c.requires.a_lt_vertices, x.table.board.sized.few)

pub list_members-block-requires-2 : goal.list_members-block-requires-2
list_members-block-requires-2 c =
    let x = c.args.self.now in
    omega (arith, ap length (targets_listed x.table.board.vertices (timing_graph x.table) c.args.a x.table.board.sized.few (graph_of_within _ _) _ (x.to_targets.row c.args.a c.requires.a_lt_vertices)), targets_few x.table.board.vertices (timing_graph x.table) c.args.a, x.table.board.sized.few)

pub returns : goal.returns
returns c =
    let x = c.args.self.now in
    let mine = sources_listed x.table.board.vertices (timing_graph x.table) c.args.a x.table.board.sized.few c.args.others c.requires.others_of in
    let theirs = targets_listed x.table.board.vertices (timing_graph x.table) c.args.a x.table.board.sized.few (graph_of_within _ _) _ (x.to_targets.row c.args.a c.requires.a_lt_vertices) in
    record {
      sources = c.list_members-block.ensures.listed ∙ ap (λ (xs : List ℕ). xs ++ those room (holds c.args.others)) (take-suc-set c.args.block.now.sources 0 c.args.a (omega (arith, c.fits-block))) ∙ mine;
      source_count = omega (arith, c.list_members-block.ensures.count, ap length mine);
      targets = c.list_members-block-2.ensures.listed ∙ theirs;
      target_count = omega (arith, c.list_members-block-2.ensures.count, ap length theirs);
      few_sources = omega (arith, c.list_members-block.ensures.count, ap length mine, sources_few x.table.board.vertices (timing_graph x.table) c.args.a c.requires.a_lt_vertices, x.table.board.sized.few);
      few_targets = omega (arith, c.list_members-block-2.ensures.count, ap length theirs, targets_few x.table.board.vertices (timing_graph x.table) c.args.a, x.table.board.sized.few);
    }
