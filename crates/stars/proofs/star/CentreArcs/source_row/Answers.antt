use Rattle.std.proofs.Common.{◌≡◌, ap, ◌∙◌, length, ℤ, w64, to_z, of_z, rules}
use Rattle.laws.specs.Lists.{tabulate}
use Rattle.graph.specs.Delay.{at, ticks}
use Rattle.stars.specs.StarCells.{least_gap, source_cell}
use Rattle.stars.proofs.RowCells.{source_made}
use Rattle.stars.proofs.star.CentreArcs.source_row.Goals as goal

pub returns : goal.returns
returns c =
    let row = c.args.row.now in
    let first = c.args.self.now.first.now in
    let ts = c.args.self.now.targets.now in
    let e = to_z w64 (of_z w64 c.tally-e.result.0) in
    let handed_on : at e ≡ least_gap row first ts = search rules in
    source_made row first ts c.args.k e c.clear_covered.new.row _ c.requires.k_in_bounds c.clear_covered.ensures (search rules)
    ∙ ap (λ (z : ℤ). tabulate (length row) (source_cell row first ts c.args.k z)) (ap ticks handed_on)
