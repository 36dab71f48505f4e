use Rattle.std.proofs.Common.{◌≡◌, ◌*◌, length, drop}
use Rattle.paths.specs.Arrivals.{lane, EachLane}
use Rattle.paths.proofs.Propagating.{Going}
use Rattle.paths.proofs.arrivals.propagate_each.Given as goal

abbrev pub invariant-loop-p : goal.invariant-loop-p
invariant-loop-p g l = record {
  size : length l.f ≡ length l.initial.f;
  past : drop (l.walk.table.board.vertices * g.row.LANES) l.f ≡ drop (l.walk.table.board.vertices * g.row.LANES) l.initial.f;
  lanes : EachLane g.row.LANES (λ k. Going l.walk.table.board.vertices l.walk.table.cells.now l.walk.order.now l.walk.chain.now (lane l.walk.table.board.vertices k l.initial.f) (lane l.walk.table.board.vertices k l.f) l.p);
}
