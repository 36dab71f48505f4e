use Rattle.std.proofs.Common.{◌≡◌, ℕ, ℤ, length, get_or, pos, w64, to_z, of_z, arith}
use Rattle.std.proofs.lemmas.Int.{to_z-of_z}
use mathlib.Core.Path.{subst}
use Rattle.paths.specs.Margins.{Pulled}
use Rattle.paths.proofs.Tables.{walk_passable}
use Rattle.paths.proofs.Pulling.{Pulling, pull_back, pulled_all}
use Rattle.paths.proofs.margins.propagate_back.Goals as goal

pub loop-p-preserved : goal.loop-p-preserved
loop-p-preserved c =
    let z : to_z w64 (of_z w64 c.pull.result) ≡ c.pull.result = grind (arith, to_z-of_z) in
    let x : to_z w64 (of_z w64 (get_or c.loop-p.f c.from-u.result (pos 0))) ≡ get_or c.loop-p.f c.from-u.result (pos 0) = grind (arith, to_z-of_z) in
    rw z
    (pull_back (walk_passable c.args.walk.now) c.requires c.args.walk.now.chains c.loop-p.invariant c.loop-p-test.true c.from-u.result c.row.result.cells.now c.row.result.links.now c.pull.result c.from-u.ensures c.row.ensures.cells c.row.ensures.links
    (subst (λ (y : ℤ). Pulled (length c.row.result.cells.now) c.row.result.cells.now c.row.result.links.now y c.loop-p.f c.pull.result) x c.pull.ensures))

pub returns : goal.returns
returns c =
    let e : c.loop-p.p ≡ 0 = omega arith in
    pulled_all (walk_passable c.args.walk.now) c.requires c.args.walk.now.chains c.loop-p.f (subst (λ (k : ℕ). Pulling c.args.walk.now.table.board.vertices c.args.walk.now.table.cells.now c.args.walk.now.order.now c.args.walk.now.chain.now c.args.f.now c.loop-p.f k) e c.loop-p.invariant)
