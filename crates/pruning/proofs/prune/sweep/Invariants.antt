use Rattle.std.proofs.Common.{ℕ}
use Rattle.pruning.proofs.AliveSweep as A
use Rattle.pruning.proofs.prune.sweep.Given as goal
use Rattle.paths.specs.Order.{rank_of}

-- whatever input the delays are from
abbrev pub invariant-loop-p : goal.invariant-loop-p
invariant-loop-p l = (i : ℕ) (S : A.Sweep l.walk.table.board i l.walk.table.cells.now l.walk.order.now l.fn.f l.fn.marks) → A.Going l.walk.table.board i l.walk.table.cells.now (rank_of l.walk.table.board.vertices l.walk.order.now) l.fn.f l.f l.fn.marks l.marks l.p
