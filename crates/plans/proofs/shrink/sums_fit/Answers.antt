use Rattle.std.proofs.Common.{◌≡◌, ◌+◌, ◌*◌, ◌<◌, T, true, false, ℕ, ℤ, List, pos, get_or, w32, to_z, of_z, sym, ap, subst, ◌∙◌, rules}
use Rattle.std.proofs.lemmas.Int.{to_z-of_z}
use Rattle.laws.specs.Bounded.{every}
use Rattle.laws.proofs.Booleans.{is_true}
use Rattle.laws.proofs.Bounded.{every_none, every_more, every_broken, every_all}
use Rattle.graph.specs.Delay.{Delay, at, present, ◌⊕◌}
use Rattle.timing.specs.Limits.{delay_limit, absent_cell, fits}
use Rattle.timing.specs.Table.{read_cell, graph_of}
use Rattle.timing.proofs.Limits.{fits_absent}
use Rattle.timing.proofs.Table.{graph_of_at}
use Rattle.paths.proofs.ReadCells.{absent_cell_lem, arc_cell}
use Rattle.plans.proofs.CopiedRow.{row_fits, sums_row}
use Rattle.plans.proofs.shrink.sums_fit.Goals as goal
use Rattle.plans.proofs.shrink.sums_fit.Goals.{else-is_arc-via-then-is_arc+else-not-row_sums_fit, else-is_arc-via-else-is_arc}

-- the cell of u→k
module _ (n : ℕ) (t : List ℤ) (u k : ℕ) (hu : u < n) (hk : k < n) where
  abbrev cell : ℤ
  cell = get_or t (n * u + k) (pos 0)

  arc : present (read_cell absent_cell cell) ≡ true → at cell ≡ graph_of n t u k
  arc e = sym (graph_of_at n t u k hu hk ∙ arc_cell cell e)

  no_sum : present (read_cell absent_cell cell) ≡ false → every n (λ x. fits delay_limit (graph_of n t u k ⊕ graph_of n t k x)) ≡ true
  no_sum e = is_true _ (every_all n _ (λ x _. fits_absent delay_limit (ap (λ (d : Delay). d ⊕ graph_of n t k x) (graph_of_at n t u k hu hk ∙ absent_cell_lem cell e))))

pub loop-u-init : goal.loop-u-init
loop-u-init c = every_none _

pub row_sums_fit-requires-clause-into_fits : goal.row_sums_fit-requires-clause-into_fits
row_sums_fit-requires-clause-into_fits c =
    let n = c.args.table.now.board.vertices in
    let t = c.args.table.now.cells.now in
    let u = c.loop-u.u in
    let k = c.args.k in
    let same = to_z-of_z w32 _ (record { sfits = c.cell-into.type_inv }) ∙ c.cell-into.ensures in
    let there : present (read_cell absent_cell (get_or t (n * u + k) (pos 0))) ≡ true = search rules in
    rw same (subst (λ (d : Delay). T (fits delay_limit d)) (sym (arc n t u k c.loop-u-test.true c.requires.k_lt_vertices there)) (c.requires.in_range u k))

pub row_sums_fit-requires-clause-via_fits : goal.row_sums_fit-requires-clause-via_fits
row_sums_fit-requires-clause-via_fits c = row_fits c.args.table.now.board.vertices c.args.table.now.cells.now c.args.k _ c.row-via.ensures c.args.table.now.room c.requires.k_lt_vertices c.requires.in_range

pub returns-then-not-row_sums_fit : goal.returns-then-not-row_sums_fit
returns-then-not-row_sums_fit c =
    let n = c.args.table.now.board.vertices in
    let t = c.args.table.now.cells.now in
    let u = c.loop-u.u in
    let k = c.args.k in
    let same = to_z-of_z w32 _ (record { sfits = c.cell-into.type_inv }) ∙ c.cell-into.ensures in
    let there : present (read_cell absent_cell (get_or t (n * u + k) (pos 0))) ≡ true = search rules in
    sym (every_broken n _ u c.loop-u-test.true (sym (c.row_sums_fit.ensures ∙ sums_row (at (to_z w32 (of_z w32 c.cell-into.result))) n t k _ c.row-via.ensures c.args.table.now.room c.requires.k_lt_vertices
    ∙ ap (λ (d : Delay). every n (λ x. fits delay_limit (d ⊕ graph_of n t k x))) (ap at same ∙ arc n t u k c.loop-u-test.true c.requires.k_lt_vertices there)) ∙ c.if-not-row_sums_fit.true))

pub loop-u-preserved : goal.loop-u-preserved
loop-u-preserved c =
    let n = c.args.table.now.board.vertices in
    let t = c.args.table.now.cells.now in
    let u = c.loop-u.u in
    let k = c.args.k in
    every_more _ u c.loop-u.invariant (elim c.else-is_arc.branch [
      | else-is_arc-via-then-is_arc+else-not-row_sums_fit w ↦
          let same = to_z-of_z w32 _ (record { sfits = c.cell-into.type_inv }) ∙ c.cell-into.ensures in
          let there : present (read_cell absent_cell (get_or t (n * u + k) (pos 0))) ≡ true = search rules in
          sym (w.row_sums_fit.ensures ∙ sums_row (at (to_z w32 (of_z w32 c.cell-into.result))) n t k _ c.row-via.ensures c.args.table.now.room c.requires.k_lt_vertices
          ∙ ap (λ (d : Delay). every n (λ x. fits delay_limit (d ⊕ graph_of n t k x))) (ap at same ∙ arc n t u k c.loop-u-test.true c.requires.k_lt_vertices there))
          ∙ w.if-not-row_sums_fit.false
      | else-is_arc-via-else-is_arc w ↦
          let gone : present (read_cell absent_cell (get_or t (n * u + k) (pos 0))) ≡ false = search rules in
          no_sum n t u k c.loop-u-test.true c.requires.k_lt_vertices gone
    ])
