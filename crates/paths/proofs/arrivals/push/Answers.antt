use Rattle.std.proofs.Common.{◌≡◌, ℤ, T, get_or, pos, length, w32, to_z, of_z, refl, sym, ◌∙◌, arith}
use Rattle.std.proofs.lemmas.Int.{to_z-of_z}
use mathlib.Core.Path.{subst}
use Rattle.timing.specs.Limits.{delay_limit, absent_cell, fits}
use Rattle.timing.specs.Table.{read_cell}
use Rattle.paths.specs.Cells.{cell_at}
use Rattle.paths.specs.Chain.{walked_at}
use Rattle.paths.specs.Arrivals.{lane}
use Rattle.paths.proofs.Walked.{walked_is, walked_there, walked-first}
use Rattle.paths.proofs.Chaining.{along_start}
use Rattle.paths.proofs.Lanes.{drop_same}
use Rattle.paths.proofs.Offering.{idle, all_offered, walk_turn}
use Rattle.paths.proofs.arrivals.push.Goals as goal

pub loop-v-init : goal.loop-v-init
loop-v-init g c =
    let p = c.args.row.now.walkable in
    rw c.from-v.ensures
    (record {
      size = refl;
      each = λ l h. along_start p.chain (lane (length c.args.row.now.cells.now) l c.args.f.now) (idle (walked_at c.args.row.now.cells.now c.args.row.now.links.now) _ (lane (length c.args.row.now.cells.now) l c.args.f.now) _) p.some (walked-first p.chain (cell_at c.args.row.now.cells.now) p.some);
      past = λ y h. refl;
    })

pub offer_each-requires : goal.offer_each-requires
offer_each-requires g c =
    let row = c.args.row.now.cells.now in
    let e : to_z w32 (of_z w32 (get_or row c.loop-v.v (pos 0))) ≡ get_or row c.loop-v.v (pos 0) = grind (arith, to_z-of_z) in
    let there = walked_there (λ j. get_or c.args.row.now.links.now j 0) row c.loop-v.v ((c.loop-v.invariant.each 0 (omega (arith, c.requires.some))).arc c.loop-v-test.true) in
    (omega (arith, c.requires.few), (omega (arith, c.requires.room, c.loop-v.invariant.size), (c.loop-v-test.true, (c.requires.reached, ((λ q. there (sym e ∙ q)), subst (λ (z : ℤ). T (fits delay_limit (read_cell absent_cell z))) (sym e) (c.args.row.now.walkable.near c.loop-v.v c.loop-v-test.true))))))

pub loop-v-preserved : goal.loop-v-preserved
loop-v-preserved g c =
    let p = c.args.row.now.walkable in
    let is = walked_is (λ j. get_or c.args.row.now.links.now j 0) (cell_at c.args.row.now.cells.now) c.loop-v.v ((c.loop-v.invariant.each 0 (omega (arith, c.requires.some))).arc c.loop-v-test.true) in
    let arc : read_cell absent_cell (to_z w32 (of_z w32 (get_or c.args.row.now.cells.now c.loop-v.v (pos 0)))) ≡ walked_at c.args.row.now.cells.now c.args.row.now.links.now c.loop-v.v = grind (arith, to_z-of_z) in
    rw c.from-v-in-loop-v.ensures (walk_turn p.chain c.loop-v-test.true c.requires.room arc c.loop-v.invariant c.offer_each.auto.f c.offer_each.ensures)

pub returns-clause-pushed : goal.returns-clause-pushed
returns-clause-pushed g c l h = all_offered (c.loop-v.invariant.each l h) c.loop-v-test.false refl

pub returns-clause-past : goal.returns-clause-past
returns-clause-past g c = drop_same _ c.args.f.now c.loop-v.f c.loop-v.invariant.size c.loop-v.invariant.past
