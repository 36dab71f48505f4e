use Rattle.std.proofs.Common.{sym, ap, ◌∙◌, length, ◌+◌}
use lib.Dec.{ltb}
use Rattle.timing.specs.Table.{graph_of}
use Rattle.stars.proofs.Members.{is_below, not-below}
use Rattle.stars.proofs.StarChain.{in_order, sources_below, targets_below, centre_below, bundle_of}
use Rattle.stars.proofs.star.star_verdict.Goals as goal

pub returns-then-not-exist : goal.returns-then-not-exist
returns-then-not-exist c =
    let b = c.args.table.now.board in
    let S = c.args.sources.now in
    let Ts = c.args.targets.now in
    rw (sym c.exist.ensures ∙ c.if-not-exist.true) at (in_order b.inputs b.outputs b.vertices S Ts c.args.k (graph_of b.vertices c.args.table.now.cells.now))

pub is_set-requires : goal.is_set-requires
is_set-requires c = sources_below c.args.table.now.board.vertices c.args.sources.now c.args.targets.now c.args.k (sym c.exist.ensures ∙ c.if-not-exist.false)

pub returns-then-not-is_set : goal.returns-then-not-is_set
returns-then-not-is_set c =
    let b = c.args.table.now.board in
    let S = c.args.sources.now in
    let Ts = c.args.targets.now in
    rw (sym c.exist.ensures ∙ c.if-not-exist.false, sym c.is_set.ensures ∙ c.if-not-is_set.true) at (in_order b.inputs b.outputs b.vertices S Ts c.args.k (graph_of b.vertices c.args.table.now.cells.now))

pub is_set-requires-2 : goal.is_set-requires-2
is_set-requires-2 c = targets_below c.args.table.now.board.vertices c.args.sources.now c.args.targets.now c.args.k (sym c.exist.ensures ∙ c.if-not-exist.false)

pub returns-then-not-is_set-2 : goal.returns-then-not-is_set-2
returns-then-not-is_set-2 c =
    let b = c.args.table.now.board in
    let S = c.args.sources.now in
    let Ts = c.args.targets.now in
    rw (sym c.exist.ensures ∙ c.if-not-exist.false, sym c.is_set.ensures ∙ c.if-not-is_set.false, sym c.is_set-2.ensures ∙ c.if-not-is_set-2.true) at (in_order b.inputs b.outputs b.vertices S Ts c.args.k (graph_of b.vertices c.args.table.now.cells.now))

pub is_free-requires : goal.is_free-requires
is_free-requires c = centre_below c.args.table.now.board.vertices c.args.sources.now c.args.targets.now c.args.k (sym c.exist.ensures ∙ c.if-not-exist.false)

pub returns-then-not-is_free : goal.returns-then-not-is_free
returns-then-not-is_free c =
    let b = c.args.table.now.board in
    let S = c.args.sources.now in
    let Ts = c.args.targets.now in
    rw (sym c.exist.ensures ∙ c.if-not-exist.false, sym c.is_set.ensures ∙ c.if-not-is_set.false, sym c.is_set-2.ensures ∙ c.if-not-is_set-2.false, sym c.is_free.ensures ∙ c.if-not-is_free.true) at (in_order b.inputs b.outputs b.vertices S Ts c.args.k (graph_of b.vertices c.args.table.now.cells.now))

pub all_joined-requires-clause-sources_below : goal.all_joined-requires-clause-sources_below
all_joined-requires-clause-sources_below c = sources_below c.args.table.now.board.vertices c.args.sources.now c.args.targets.now c.args.k (sym c.exist.ensures ∙ c.if-not-exist.false)

pub all_joined-requires-clause-targets_below : goal.all_joined-requires-clause-targets_below
all_joined-requires-clause-targets_below c = targets_below c.args.table.now.board.vertices c.args.sources.now c.args.targets.now c.args.k (sym c.exist.ensures ∙ c.if-not-exist.false)

pub returns-then-not-all_joined : goal.returns-then-not-all_joined
returns-then-not-all_joined c =
    let b = c.args.table.now.board in
    let S = c.args.sources.now in
    let Ts = c.args.targets.now in
    rw (sym c.exist.ensures ∙ c.if-not-exist.false, sym c.is_set.ensures ∙ c.if-not-is_set.false, sym c.is_set-2.ensures ∙ c.if-not-is_set-2.false, sym c.is_free.ensures ∙ c.if-not-is_free.false, sym c.all_joined.ensures ∙ c.if-not-all_joined.true) at (in_order b.inputs b.outputs b.vertices S Ts c.args.k (graph_of b.vertices c.args.table.now.cells.now))

pub measure-covered-requires : goal.measure-covered-requires
measure-covered-requires c = bundle_of c.args.table.now.board.vertices c.args.sources.now c.args.targets.now c.args.k (sym c.exist.ensures ∙ c.if-not-exist.false) (sym c.is_set.ensures ∙ c.if-not-is_set.false) (sym c.is_set-2.ensures ∙ c.if-not-is_set-2.false) (sym c.all_joined.ensures ∙ c.if-not-all_joined.false)

pub returns-then-covered-sources : goal.returns-then-covered-sources
returns-then-covered-sources c =
    let b = c.args.table.now.board in
    let S = c.args.sources.now in
    let Ts = c.args.targets.now in
    rw (sym c.exist.ensures ∙ c.if-not-exist.false, sym c.is_set.ensures ∙ c.if-not-is_set.false, sym c.is_set-2.ensures ∙ c.if-not-is_set-2.false, sym c.is_free.ensures ∙ c.if-not-is_free.false, sym c.all_joined.ensures ∙ c.if-not-all_joined.false, ap (ltb (length S + length Ts)) (sym c.measure-covered.ensures.covered) ∙ not-below _ _ c.if-covered-sources.true) at (in_order b.inputs b.outputs b.vertices S Ts c.args.k (graph_of b.vertices c.args.table.now.cells.now))

pub returns-then-not-fits : goal.returns-then-not-fits
returns-then-not-fits c =
    let b = c.args.table.now.board in
    let S = c.args.sources.now in
    let Ts = c.args.targets.now in
    rw (sym c.exist.ensures ∙ c.if-not-exist.false, sym c.is_set.ensures ∙ c.if-not-is_set.false, sym c.is_set-2.ensures ∙ c.if-not-is_set-2.false, sym c.is_free.ensures ∙ c.if-not-is_free.false, sym c.all_joined.ensures ∙ c.if-not-all_joined.false, ap (ltb (length S + length Ts)) (sym c.measure-covered.ensures.covered) ∙ is_below _ _ c.if-covered-sources.false, sym c.measure-covered.ensures.fits ∙ c.if-not-fits.true) at (in_order b.inputs b.outputs b.vertices S Ts c.args.k (graph_of b.vertices c.args.table.now.cells.now))

pub returns : goal.returns
returns c =
    let b = c.args.table.now.board in
    let S = c.args.sources.now in
    let Ts = c.args.targets.now in
    rw (sym c.exist.ensures ∙ c.if-not-exist.false, sym c.is_set.ensures ∙ c.if-not-is_set.false, sym c.is_set-2.ensures ∙ c.if-not-is_set-2.false, sym c.is_free.ensures ∙ c.if-not-is_free.false, sym c.all_joined.ensures ∙ c.if-not-all_joined.false, ap (ltb (length S + length Ts)) (sym c.measure-covered.ensures.covered) ∙ is_below _ _ c.if-covered-sources.false, sym c.measure-covered.ensures.fits ∙ c.if-not-fits.false) at (in_order b.inputs b.outputs b.vertices S Ts c.args.k (graph_of b.vertices c.args.table.now.cells.now))
