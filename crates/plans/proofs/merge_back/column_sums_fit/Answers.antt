use Rattle.std.proofs.Common.{◌≡◌, ◌+◌, ◌*◌, ◌<◌, T, ℕ, ℤ, List, pos, get_or, w32, to_z, of_z, sym, ap₂, ◌∙◌, rules}
use Rattle.std.proofs.lemmas.Int.{to_z-of_z}
use Rattle.laws.proofs.Bounded.{every_none, every_more, every_broken}
use Rattle.graph.specs.Delay.{Delay, at, ◌⊕◌}
use Rattle.timing.specs.Limits.{delay_limit, absent_cell, fits}
use Rattle.timing.specs.Table.{read_cell, graph_of}
use Rattle.timing.proofs.Table.{graph_of_at}
use Rattle.plans.proofs.LoweredSums.{delay_cell}
use Rattle.plans.proofs.merge_back.column_sums_fit.Goals as goal

-- the sum of the arc u→v and d, as the cells have them
sum_is : (n : ℕ) (t : List ℤ) (u v : ℕ) (d : ℤ) → u < n → v < n → T (fits delay_limit (at d))
    → fits delay_limit (read_cell absent_cell (get_or t (n * u + v) (pos 0)) ⊕ read_cell absent_cell d) ≡ fits delay_limit (graph_of n t u v ⊕ at d)
sum_is n t u v d hu hv l = ap₂ (λ (x y : Delay). fits delay_limit (x ⊕ y)) (sym (graph_of_at n t u v hu hv)) (delay_cell d l)

pub loop-u-init : goal.loop-u-init
loop-u-init c = every_none _

pub returns-then-not-sum_fits : goal.returns-then-not-sum_fits
returns-then-not-sum_fits c =
    let n = c.args.table.now.board.vertices in
    let u = c.loop-u.u in
    let said : c.sum_fits.result ≡ fits delay_limit (read_cell absent_cell (get_or c.args.table.now.cells.now (n * u + c.args.v) (pos 0)) ⊕ read_cell absent_cell c.args.d) = search rules in
    sym (every_broken n _ u c.loop-u-test.true (sym (said ∙ sum_is n c.args.table.now.cells.now u c.args.v c.args.d c.loop-u-test.true c.requires.v_lt_vertices c.requires.d_fits) ∙ c.if-not-sum_fits.true))

pub loop-u-preserved : goal.loop-u-preserved
loop-u-preserved c =
    let n = c.args.table.now.board.vertices in
    let u = c.loop-u.u in
    let said : c.sum_fits.result ≡ fits delay_limit (read_cell absent_cell (get_or c.args.table.now.cells.now (n * u + c.args.v) (pos 0)) ⊕ read_cell absent_cell c.args.d) = search rules in
    let d_is : to_z w32 (of_z w32 c.args.d) ≡ c.args.d = to_z-of_z w32 c.args.d c.ranges.d in
    rw d_is (every_more _ u (rw d_is at c.loop-u.invariant) (sym (said ∙ sum_is n c.args.table.now.cells.now u c.args.v c.args.d c.loop-u-test.true c.requires.v_lt_vertices c.requires.d_fits) ∙ c.if-not-sum_fits.false))
