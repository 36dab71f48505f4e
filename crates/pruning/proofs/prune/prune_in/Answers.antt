use Rattle.std.proofs.Common.{refl, sym, ◌∙◌, List, ℤ, arith}
use Rattle.graph.specs.Graph.{Graph}
use Rattle.timing.specs.declared.Refusal.TheVariants.{NothingSaved}
use Rattle.timing.specs.Table.{graph_of}
use Rattle.reduction.specs.Prune.{pruned}
use Rattle.reduction.specs.Steps.{prune, plan}
use Rattle.paths.specs.declared.board.Board.{Board}
use Rattle.plans.proofs.Applying.{step_done, step_refused}
use Rattle.pruning.proofs.Marking.{only}
use Rattle.pruning.proofs.PruneOutcome.{same_table, nothing_goes, some_go}
use Rattle.pruning.proofs.prune.prune_in.Goals as goal

-- prune's plan, from its verdict
abbrev kept : Board → List ℤ → Unit {0} → Graph
kept b t _ = pruned b.inputs b.outputs b.vertices (graph_of b.vertices t)

pub some_unmarked-requires : goal.some_unmarked-requires
some_unmarked-requires c = omega (arith, c.requires.unmarked.room)

pub returns-then-not-some_unmarked-clause-applies : goal.returns-then-not-some_unmarked-clause-applies
unfolding plan
returns-then-not-some_unmarked-clause-applies c =
    let b = c.args.board in
    let t = c.args.table.now in
    let marked = only b t c.args.marks.now c.prune_marks.new.marks c.requires.unmarked c.prune_marks.ensures.deciding_marked in
    step_refused b t prune (kept b t) NothingSaved (nothing_goes b t c.prune_marks.new.marks marked (sym c.some_unmarked.ensures ∙ c.if-not-some_unmarked.true)) refl

pub thin-requires-clause-marks_room : goal.thin-requires-clause-marks_room
thin-requires-clause-marks_room c = omega (arith, c.requires.unmarked.room)

pub returns-clause-applies : goal.returns-clause-applies
unfolding plan
returns-clause-applies c =
    let b = c.args.board in
    let t = c.args.table.now in
    let marks = c.prune_marks.new.marks in
    let marked = only b t c.args.marks.now marks c.requires.unmarked c.prune_marks.ensures.deciding_marked in
    let go = some_go b t marks marked (sym c.some_unmarked.ensures ∙ c.if-not-some_unmarked.false) in
    step_done b t prune (kept b t) tt go refl c.thin.new.table (c.thin.ensures ∙ same_table b t marks marked)
