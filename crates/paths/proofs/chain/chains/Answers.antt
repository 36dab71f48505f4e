use Rattle.std.proofs.Common.{ℕ, arith}
use mathlib.Core.Path.{subst}
use Rattle.timing.specs.Table.{graph_of}
use Rattle.paths.specs.Chain.{Chained, chain_at}
use Rattle.paths.proofs.Chaining.{rows_back}
use Rattle.paths.proofs.chain.chains.Goals as goal
use Rattle.paths.specs.Order.{rank_of}

pub loop-p-preserved : goal.loop-p-preserved
loop-p-preserved c = rows_back c.args.sorted.now.rises c.requires c.loop-p.invariant c.loop-p-test.true c.from-u.result c.from-u.ensures c.chain_from.new.chain c.chain_from.auto.chain c.chain_from.ensures

pub returns : goal.returns
returns c =
    let n = c.args.sorted.now.table.board.vertices in
    let o = c.args.sorted.now.rises in
    record {
      room = omega (arith, c.requires, c.loop-p.invariant.size);
      row = λ u h. subst (λ (x : ℕ). Chained n (graph_of n c.args.sorted.now.table.cells.now) x (chain_at n c.loop-p.chain x)) (o.place u h).1
          (c.loop-p.invariant.done (rank_of _ _ u) (omega arith) (o.place u h).0);
    }
