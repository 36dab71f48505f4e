use Rattle.std.proofs.Common.{◌∙◌, arith}
use Rattle.graph.specs.Count.{fan_out}
use Rattle.paths.proofs.Rows.{row_counted}
use Rattle.paths.proofs.table.Table.fan_out.Goals as goal

pub returns : goal.returns
unfolding fan_out
returns c = c.count.ensures ∙ row_counted c.args.self.now.board.vertices c.args.self.now.board.vertices c.args.self.now.cells.now c.args.u c.requires (omega arith)
