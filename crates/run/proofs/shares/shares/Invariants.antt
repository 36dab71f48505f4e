use Rattle.std.proofs.Common.{Ok, ◌≡◌, ◌-◌, ◌≤◌}
use Rattle.timing.specs.Table.{graph_of}
use Rattle.plans.specs.Comparing.{seen}
use Rattle.run.specs.Sides.{across_of, line_of, side_tries}
use Rattle.run.specs.Running.{Counted}
use Rattle.run.proofs.Sharing.{Sharing, at_first, at_second}
use Rattle.run.proofs.shares.shares.Given as goal

abbrev pub invariant-firsts : goal.invariant-firsts
invariant-firsts g l =
    let side = g.S.Side.side in
    record {
      sharing : Sharing l.board l.matrix (side_tries l.board side) l.fn.table l.fn.steps (at_first l.board side l.a) l.table l.done;
      known : g.S.Side.knows l.side l.board l.table;
      counted : Counted side l.board l.table l.rich;
    }

abbrev pub invariant-seconds : goal.invariant-seconds
invariant-seconds g l =
    let side = g.S.Side.side in
    record {
      sharing : Sharing l.board l.matrix (side_tries l.board side) l.fn.table l.fn.steps (at_second l.board side l.a l.b) l.table l.done;
      known : g.S.Side.knows l.side l.board l.table;
      counted : Counted side l.board l.table l.rich;
    }

-- the entries before j have been compared
abbrev pub invariant-compare : goal.invariant-compare
invariant-compare g l =
    let line = line_of g.S.Side.side l.board.inputs l.board.vertices (graph_of l.board.vertices l.table) in
    record {
      inside : l.j ≤ across_of g.S.Side.side l.board.inputs l.board.outputs;
      compared : Ok l.seen ≡ seen l.j (line l.a) (line l.b);
    }

abbrev pub decreases-compare : goal.decreases-compare
decreases-compare g l = across_of g.S.Side.side l.board.inputs l.board.outputs - l.j
