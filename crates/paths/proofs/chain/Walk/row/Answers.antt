use Rattle.paths.proofs.Tables.{walk_passable}
use Rattle.paths.proofs.Propagating.{walkable_row}
use Rattle.paths.proofs.chain.Walk.row.Goals as goal

pub invariant_of-result : goal.invariant_of-result
invariant_of-result c = record { walkable = walkable_row (walk_passable c.args.self.now) c.args.self.now.chains c.args.u c.requires c.row.result.now c.row-2.result.now c.row.ensures c.row-2.ensures }
