use Rattle.std.proofs.Common.{sym, ap, ◌∙◌, ℤ, to_z-of_z, true}
use Rattle.graph.specs.Delay.{at}
use Rattle.timing.specs.Limits.{delay_limit, fits}
use Rattle.timing.specs.Table.{graph_of}
use Rattle.reduction.specs.ShareOutputs.{outputs_saved}
use Rattle.steps.proofs.Ready.{share_outputs_ready, narrowed}
use Rattle.run.specs.Sides.{Outputs}
use Rattle.run.proofs.ShareVerdicts.{refused_low, columns_saved, columns_far}
use Rattle.run.proofs.TriedShares.{Trying, share_taken, share_left}
use Rattle.run.proofs.Trying.{still_checked}
use Rattle.reduction.specs.Steps.{share_outputs}
use Rattle.run.proofs.OrderKept.{order_known}
use Rattle.run.proofs.RowsShared.{rows_known}
use Rattle.run.proofs.outputs.OutputsSide.share.Goals as goal
use Rattle.run.proofs.outputs.OutputsSide.share.Goals.{After-rewrite}

pub returns-then-not-in_range-clause-tries_share : goal.returns-then-not-in_range-clause-tries_share
returns-then-not-in_range-clause-tries_share c =
    let a = c.args in
    let far = ap (λ (z : ℤ). fits delay_limit (at z)) (sym (to_z-of_z c.ranges.e)) ∙ sym c.in_range.ensures ∙ c.if-not-in_range.true in
    share_left a.board a.table.now Outputs a.a a.b 0 (columns_far a.board a.table.now a.a a.b a.e c.requires.pair c.requires.compared far)

-- what is left to ask is the verdict
pub returns-in_default-clause-tries_share : goal.returns-in_default-clause-tries_share
returns-in_default-clause-tries_share c =
    let a = c.args in
    let b = a.board in
    let asked = columns_saved b a.table.now a.a a.b a.e c.requires.pair c.requires.compared in
    share_left b a.table.now Outputs a.a a.b 0 (refused_low (asked ∙ sym (ap (outputs_saved b.vertices (graph_of b.vertices a.table.now) a.a a.b) (to_z-of_z c.ranges.e)) ∙ sym (c.in_default.ensures a.a c.path_back-back.ensures.found_value)))

taken : (c : After-rewrite) → Trying c.args.board c.args.table.now Outputs c.args.a c.args.b 0 c.rewrite.new.table true
taken c =
    let a = c.args in
    let b = a.board in
    let g = graph_of b.vertices a.table.now in
    let asked = columns_saved b a.table.now a.a a.b a.e c.requires.pair c.requires.compared in
    let found = asked ∙ sym (ap (outputs_saved b.vertices g a.a a.b) (to_z-of_z c.ranges.e)) ∙ sym (c.in-Ok.ensures a.a c.path_back-back.ensures.found_value) in
    let ready = share_outputs_ready b.inputs b.outputs b.vertices a.a a.b g c.in-Ok.d b.sized.roles found in
    share_taken b a.table.now Outputs a.a a.b 0 found (narrowed c.in-Ok.d ready.1 _ c.narrow-e.type_inv c.narrow-e.ensures) c.rewrite.new.table c.rewrite.ensures

pub returns-clause-tries_share : goal.returns-clause-tries_share
returns-clause-tries_share c = taken (goal.at.returns-clause-tries_share c).After-rewrite

pub returns-clause-still_known : goal.returns-clause-still_known
returns-clause-still_known c =
    let a = c.args in
    let h = taken (goal.at.returns-clause-still_known c).After-rewrite in (
      order_known a.board a.table.now a.a a.b 0 _ _ c.requires.known.0 c.requires.pair c.rewrite.new.table h (still_checked c.requires.checked (share_outputs a.a a.b) c.rewrite.new.table h) c.still_sorted-self.ensures,
      rows_known a.board a.table.now a.a a.b 0 c.requires.checked c.rewrite.new.table h _ _ c.path_back-back.ensures.still_indexed c.keep_up.ensures,
    )
