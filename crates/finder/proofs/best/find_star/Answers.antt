use Rattle.std.proofs.Common.{sym, ap, ◌∙◌}
use Rattle.paths.specs.Tables.{timing_graph}
use Rattle.reduction.proofs.FindStar.{none_free}
use Rattle.finder.specs.Finding.{found}
use Rattle.finder.proofs.Sources.{all_empty}
use Rattle.finder.proofs.best.find_star.Goals as goal

pub returns-in_err-over : goal.returns-in_err-over
returns-in_err-over c =
    let b = c.args.table.now.board in
    ap found c.from_residual.ensures ∙ sym (none_free b.inputs b.outputs b.vertices (timing_graph c.args.table.now) c.in_err-over.ensures)

pub over-requires-clause-none : goal.over-requires-clause-none
over-requires-clause-none c = all_empty c.empty-sources.result c.empty-sources.ensures 90
