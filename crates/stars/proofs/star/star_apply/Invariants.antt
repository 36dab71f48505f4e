use Rattle.std.proofs.Common.{◌≡◌, ◌++◌, ◌*◌, drop}
use Rattle.laws.specs.Lists.{rows}
use Rattle.timing.specs.Limits.{absent_cell}
use Rattle.timing.specs.Table.{write_cell}
use Rattle.paths.specs.Board.{graph_in}
use Rattle.reduction.specs.Star.{starred}
use Rattle.stars.proofs.star.star_apply.Given as goal

abbrev pub invariant-loop-u : goal.invariant-loop-u
invariant-loop-u l =
    let n = l.fn.board.vertices in
    l.table ≡ rows n l.u (λ u v. write_cell absent_cell (starred l.sources l.targets l.k (graph_in l.fn.board l.fn.table) u v)) ++ drop (n * l.u) l.fn.table
