use Rattle.paths.specs.Tables.{timing_graph}
use Rattle.sets.proofs.Counting.{left_out}
use Rattle.finder.proofs.Sources.{Narrowed}
use Rattle.finder.proofs.best.Finder.others.Given as goal

abbrev pub invariant-loop-t : goal.invariant-loop-t
invariant-loop-t l = Narrowed l.self.table.board.vertices (timing_graph l.self.table) l.a l.done l.others

abbrev pub decreases-loop-t : goal.decreases-loop-t
decreases-loop-t l = left_out l.done
