use Rattle.std.proofs.Common.{◌≡◌, ◌∙◌, sym, get_or, pos, arith, w32, w64, to_z, of_z}
use Rattle.std.proofs.lemmas.Int.{to_z-of_z}
use Rattle.pruning.proofs.TightMarks.{tight_start, tight_turn, tight_keep, cell_there, tight_said}
use Rattle.paths.specs.Chain.{walked_at}
use Rattle.pruning.specs.PruneMarks.{tight_in}
use Rattle.pruning.proofs.prune.mark_row.Goals as goal
use Rattle.pruning.proofs.prune.mark_row.Goals.{then-is_tight, else-is_tight}

pub loop-v-init : goal.loop-v-init
loop-v-init c =
    let held : to_z w64 (of_z w64 c.args.a) ≡ c.args.a = grind (arith, to_z-of_z) in
    let a = c.args in
    simp (held, c.from-v.ensures) (tight_start a.row.now.cells.now a.row.now.links.now a.a a.f.now a.marks.now a.row.now.walkable c.requires.marks_len)

pub is_tight-requires-clause-cell_nonzero : goal.is_tight-requires-clause-cell_nonzero
is_tight-requires-clause-cell_nonzero c =
    let a = c.args in
    let held : to_z w32 (of_z w32 (get_or a.row.now.cells.now c.loop-v.v (pos 0))) ≡ get_or a.row.now.cells.now c.loop-v.v (pos 0) = grind (arith, to_z-of_z) in
    rw held (cell_there a.row.now.cells.now a.row.now.links.now _ a.f.now a.marks.now a.row.now.walkable c.requires.marks_len c.loop-v.v (omega arith) c.loop-v.invariant)

pub loop-v-preserved : goal.loop-v-preserved
loop-v-preserved c =
    let a = c.args in
    let v = c.loop-v.v in
    let arrival = to_z w64 (of_z w64 a.a) in
    let cell : to_z w32 (of_z w32 (get_or a.row.now.cells.now v (pos 0))) ≡ get_or a.row.now.cells.now v (pos 0) = grind (arith, to_z-of_z) in
    let there : to_z w64 (of_z w64 (get_or a.f.now v (pos 0))) ≡ get_or a.f.now v (pos 0) = grind (arith, to_z-of_z) in
    let said : c.is_tight.result ≡ tight_in (walked_at a.row.now.cells.now a.row.now.links.now) arrival a.f.now v =
    rw (cell, there) at c.is_tight.ensures ∙ tight_said a.row.now.cells.now a.row.now.links.now arrival a.f.now a.marks.now a.row.now.walkable c.requires.marks_len v (omega arith) c.loop-v.invariant in
    elim c.if-is_tight.branch [
      | then-is_tight w ↦ rw (w.marks-is, w.found-is, c.from-v-in-loop-v.ensures) (tight_turn a.row.now.cells.now a.row.now.links.now arrival a.f.now a.marks.now a.row.now.walkable c.requires.marks_len v (omega arith) c.loop-v.invariant (sym said ∙ w.if-is_tight.true))
      | else-is_tight w ↦ rw (w.marks-is, w.found-is, c.from-v-in-loop-v.ensures) (tight_keep a.row.now.cells.now a.row.now.links.now arrival a.f.now a.marks.now a.row.now.walkable c.requires.marks_len v (omega arith) c.loop-v.invariant (sym said ∙ w.if-is_tight.false))
    ]
