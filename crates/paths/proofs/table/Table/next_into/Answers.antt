use Rattle.std.proofs.Common.{arith}
use Rattle.std.proofs.lemmas.Int.{to_z-of_z}
use Rattle.paths.specs.Board.{graph_in}
use Rattle.paths.proofs.Columns.{passed_more}
use Rattle.paths.proofs.ReadCells.{arc_bit}
use Rattle.paths.proofs.table.Table.next_into.Goals as goal

pub returns-then-is_arc : goal.returns-then-is_arc
returns-then-is_arc c = (
  omega arith,
  record {
    past = omega arith;
    upto = omega arith;
    none = c.loop-u.invariant;
    arc = λ _. grind (arith, to_z-of_z, arc_bit);
  },
)

pub loop-u-preserved : goal.loop-u-preserved
loop-u-preserved c = passed_more (graph_in c.args.self.now.board c.args.self.now.cells.now) c.args.v c.args.from c.loop-u.u c.loop-u.invariant (grind (arith, to_z-of_z, arc_bit))
