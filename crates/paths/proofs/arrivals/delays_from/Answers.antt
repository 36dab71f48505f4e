use Rattle.std.proofs.Common.{◌≡◌, ◌+◌, ℕ, ap, arith}
use Rattle.paths.specs.Arrivals.{delays_from}
use Rattle.paths.proofs.Alone.{filled_alone}
use Rattle.paths.proofs.arrivals.delays_from.Goals as goal

pub returns : goal.returns
returns c =
    let w = c.args.walk.now in
    let e : c.args.i + 0 ≡ c.args.i = omega arith in
    filled_alone _ _ _ _ _ (λ v _. ap (λ (k : ℕ). delays_from w.table.board w.table.cells.now k v) e) (c.delays_from_each.ensures.delay_lanes 0 (omega arith)) c.delays_from_each.ensures.past
