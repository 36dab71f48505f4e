use Rattle.std.proofs.Common.{Some, ◌≡◌, ◌+◌, ◌-◌, ◌*◌, ◌≤◌, sym, ap, ◌∙◌, arith}
use lib.Dec.{T}
use Rattle.timing.proofs.Table.{graph_of_within}
use Rattle.reduction.specs.Star.{non_empty}
use Rattle.reduction.specs.FindStar.{targets_of, saving_of}
use Rattle.paths.specs.Tables.{timing_graph}
use Rattle.finder.proofs.Blocks.{product_fits}
use Rattle.finder.proofs.Savings.{some_target, bundle, no_targets, no_others, few_arcs, low_offer, unfit_offer, offer}
use Rattle.finder.proofs.best.Finder.saving.Goals as goal
use Rattle.finder.proofs.best.Finder.saving.Goals.{After-fill, After-saturating_sub-saving, then-saving-least-via-then-saving-least, then-saving-least-via-else-saving-least+then-not-fits}

pub returns-then-is_empty : goal.returns-then-is_empty
returns-then-is_empty c =
    let x = c.args.self.now in
    no_targets x.table.board x.table.cells.now c.args.a c.args.least _ (x.to_targets.row c.args.a c.requires) (c.is_empty.ensures.u_value c.if-is_empty.true)

pub returns-then-is_empty-2 : goal.returns-then-is_empty-2
returns-then-is_empty-2 c =
    let x = c.args.self.now in
    no_others x.table.board x.table.cells.now c.args.a c.args.least c.others-others.result c.others-others.ensures (c.is_empty-2.ensures.u_value c.if-is_empty-2.true)

pub overflow_add-ends : goal.overflow_add-ends
overflow_add-ends c = omega (arith, c.fill.ensures.few_sources, c.fill.ensures.few_targets)

pub shared_ref_as_front-sources : goal.shared_ref_as_front-sources
shared_ref_as_front-sources c = c.fill.ensures.few_sources

pub shared_ref_as_front-targets : goal.shared_ref_as_front-targets
shared_ref_as_front-targets c = c.fill.ensures.few_targets

pub overflow_mul-block : goal.overflow_mul-block
overflow_mul-block c =
    let k = c.fill.ensures in
    omega (arith, product_fits c.fill.new.block.source_count c.fill.new.block.target_count k.few_sources k.few_targets)

-- with the lengths of the lists themselves
module _ (c : After-fill) where
  some : T (non_empty (targets_of c.args.self.now.table.board.vertices (timing_graph c.args.self.now.table) c.args.a))
  some = let x = c.args.self.now in some_target c.requires (graph_of_within x.table.board.vertices x.table.cells.now) _ (x.to_targets.row c.args.a c.requires) (c.is_empty.ensures.by_index c.if-is_empty.false)

pub returns-then-saturating_sub-least : goal.returns-then-saturating_sub-least
returns-then-saturating_sub-least c =
    let x = c.args.self.now.table in
    let k = c.fill.ensures in
    let s = c.fill.new.block.source_count in
    let t = c.fill.new.block.target_count in
    let few : s * t - (s + t) ≤ c.args.least = omega (arith, c.saturating_sub.ensures, c.if-saturating_sub-least.true) in
    few_arcs x.board x.cells.now c.args.a c.args.least (rw (k.source_count, k.target_count) at few)

pub measure-covered-requires : goal.measure-covered-requires
measure-covered-requires c =
    let k = c.fill.ensures in
    rw (k.sources, k.targets) (bundle c.requires (some (goal.at.measure-covered-requires c).After-fill))

saving_is : (c : After-saturating_sub-saving) → c.saturating_sub-saving.result ≡ saving_of c.args.self.now.table.board.vertices (timing_graph c.args.self.now.table) c.args.a
unfolding saving_of
saving_is c =
    let k = c.fill.ensures in
    omega (arith, c.saturating_sub-saving.ensures, rw (k.sources, k.targets) at c.measure-covered.ensures.covered, k.source_count, k.target_count)

pub returns-then-saving-least : goal.returns-then-saving-least
returns-then-saving-least c =
    let x = c.args.self.now in
    let t = x.table in
    let k = c.fill.ensures in
    let saved = (goal.at.returns-then-saving-least c).After-saturating_sub-saving in
    elim c.then-saving-least.branch [
      | then-saving-least-via-then-saving-least w ↦ low_offer t.board t.cells.now c.args.a c.args.least (omega (arith, w.if-saving-least.true, saving_is saved))
      | then-saving-least-via-else-saving-least+then-not-fits w ↦
          unfit_offer t.board t.cells.now c.args.a c.args.least c.requires (some (goal.at.returns-then-saving-least c).After-fill) (omega (arith, x.free.0, x.free.1))
          (rw (k.sources, k.targets) at (sym c.measure-covered.ensures.fits ∙ w.if-not-fits.true))
    ]

pub returns : goal.returns
returns c =
    let x = c.args.self.now in
    let t = x.table in
    let k = c.fill.ensures in
    let is = saving_is (goal.at.returns c).After-saturating_sub-saving in
    ap Some is ∙ offer t.board t.cells.now c.args.a c.args.least c.requires (some (goal.at.returns c).After-fill) (omega (arith, x.free.0, x.free.1))
    (rw (k.sources, k.targets) at (sym c.measure-covered.ensures.fits ∙ c.if-not-fits.false)) (omega (arith, c.if-saving-least.false, is))
