use Rattle.std.proofs.Common.{◌∙◌}
use Rattle.graph.specs.Count.{fan_in}
use Rattle.paths.proofs.Rows.{column_counted}
use Rattle.paths.proofs.table.Table.fan_in.Goals as goal

pub returns : goal.returns
unfolding fan_in
returns c = c.count.ensures ∙ column_counted c.args.self.now.board.vertices c.args.self.now.cells.now c.args.v c.requires
