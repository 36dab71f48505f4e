use Rattle.std.proofs.Common.{◌≡◌, false}
use Rattle.laws.proofs.Storing.{Stored}
use Rattle.timing.specs.Table.{graph_of}
use Rattle.run.specs.Sides.{OnSide, is_rich}
use Rattle.run.proofs.counts.rich_ones.Given as goal

abbrev pub invariant-loop-v : goal.invariant-loop-v
invariant-loop-v g l =
    Stored (λ v x. OnSide l.table.board g.S.Side.side v → x ≡ is_rich g.S.Side.side l.table.board.vertices (graph_of l.table.board.vertices l.table.cells.now) v) false l.initial.rich l.rich l.v
