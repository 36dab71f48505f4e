use Rattle.std.proofs.Common.{◌≡◌, get_or, pos, w32, w64, to_z, of_z, sym, ◌∙◌, arith}
use Rattle.std.proofs.lemmas.Int.{to_z-of_z}
use Rattle.graph.specs.Delay.{◌⋓◌, ◌⊕◌}
use Rattle.timing.specs.Limits.{absent_wide}
use Rattle.timing.specs.Table.{read_cell}
use Rattle.timing.specs.Delays.{arrival_in}
use Rattle.paths.specs.Cells.{cell_at}
use Rattle.paths.specs.Chain.{walked_at}
use Rattle.paths.proofs.Walked.{walked_is, walked_there, walked-first}
use Rattle.paths.proofs.Pulling.{gathered_start, gathered_turn}
use Rattle.paths.proofs.margins.pull.Goals as goal

pub loop-v-init : goal.loop-v-init
loop-v-init c =
    let p = c.args.row.now.walkable in
    rw c.from-v.ensures (gathered_start p.chain _ (arrival_in c.args.f.now) p.some (walked-first p.chain (cell_at c.args.row.now.cells.now) p.some))

pub later-best-requires-clause-cell_nonzero : goal.later-best-requires-clause-cell_nonzero
later-best-requires-clause-cell_nonzero c =
    let there = walked_there (λ j. get_or c.args.row.now.links.now j 0) c.args.row.now.cells.now c.loop-v.v (c.loop-v.invariant.arc c.loop-v-test.true) in
    let e : to_z w32 (of_z w32 (get_or c.args.row.now.cells.now c.loop-v.v (pos 0))) ≡ get_or c.args.row.now.cells.now c.loop-v.v (pos 0) = grind (arith, to_z-of_z) in
    λ q. there (sym e ∙ q)

pub loop-v-preserved : goal.loop-v-preserved
loop-v-preserved c =
    let is = walked_is (λ j. get_or c.args.row.now.links.now j 0) (cell_at c.args.row.now.cells.now) c.loop-v.v (c.loop-v.invariant.arc c.loop-v-test.true) in
    let next : read_cell absent_wide (to_z w64 (of_z w64 c.later-best.result)) ≡ read_cell absent_wide (to_z w64 c.loop-v.best-bits) ⋓ (arrival_in c.args.f.now c.loop-v.v ⊕ walked_at c.args.row.now.cells.now c.args.row.now.links.now c.loop-v.v) = grind (arith, to_z-of_z) in
    rw c.from-v-in-loop-v.ensures (gathered_turn c.args.row.now.walkable.chain _ (arrival_in c.args.f.now) c.loop-v.invariant c.loop-v-test.true _ next)
