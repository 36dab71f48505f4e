use Rattle.std.proofs.Common.{◌≡◌, ℕ, ◌+◌, ◌*◌, ◌<◌, ◌≤◌, List, length, get_or, ℤ, refl, ap, ◌∙◌, arith}
use Rattle.std.proofs.lemmas.List.{get_or-replicate}
use Rattle.laws.specs.Bounded.{sum}
use Rattle.laws.proofs.Sums.{sum_more, sum_bound}
use Rattle.graph.specs.Graph.{Graph}
use Rattle.graph.specs.Count.{bit, fan_in}
use Rattle.graph.proofs.Presence.{bit_le}
use Rattle.timing.specs.Table.{graph_of}
use Rattle.paths.specs.Cells.{cell_at, row_at}
use Rattle.paths.specs.Board.{graph_in}
use Rattle.paths.proofs.Rows.{row_at_cell, length-row_at}
use Rattle.paths.proofs.order.fans.Goals as goal

-- the arcs into v from the first u rows
abbrev above : Graph → ℕ → ℕ → ℕ
above g u v = sum u (λ x. bit (g x v))

few : (g : Graph) (u v : ℕ) → above g u v ≤ u
few g u v = sum_bound u (λ x. bit (g x v)) (λ x. bit_le (g x v))

-- a row more
raised : (n : ℕ) (t row : List ℤ) (u : ℕ) (fan₀ fan : List ℕ) → n * n ≤ length t → u < n → row ≡ row_at n u t
    → ((v : ℕ) → v < n → get_or fan₀ v 0 ≡ above (graph_of n t) u v)
    → ((v : ℕ) → v < length row → get_or fan v 0 ≡ get_or fan₀ v 0 + bit (cell_at row v))
    → (v : ℕ) → v < n → get_or fan v 0 ≡ above (graph_of n t) (u + 1) v
raised n t row u fan₀ fan room l e h r v k =
    omega (arith, r v (omega (arith, ap length e, length-row_at n t u room l)), h v k, ap (λ (x : List ℤ). bit (cell_at x v)) e, ap bit (row_at_cell n t u v l k), sum_more (λ x. bit (graph_of n t x v)) u)

pub loop-u-init : goal.loop-u-init
unfolding sum
loop-u-init c = record { size = refl; counted = λ v h. get_or-replicate 90 v 0 0 (omega (arith, c.args.table.now.board.sized.few)) }

pub raise-requires-clause-raisable : goal.raise-requires-clause-raisable
raise-requires-clause-raisable c v h =
    let l : v < c.args.table.now.board.vertices = omega (arith, ap length c.row.ensures, length-row_at c.args.table.now.board.vertices c.args.table.now.cells.now c.loop-u.u c.args.table.now.room c.loop-u-test.true) in
    omega (arith, c.loop-u.invariant.counted v l, few (graph_in c.args.table.now.board c.args.table.now.cells.now) c.loop-u.u v)

pub loop-u-preserved : goal.loop-u-preserved
loop-u-preserved c = record {
  size = c.raise.ensures.0;
  counted = raised c.args.table.now.board.vertices c.args.table.now.cells.now c.row.result.now c.loop-u.u c.loop-u.fan c.raise.new.fan c.args.table.now.room c.loop-u-test.true c.row.ensures c.loop-u.invariant.counted c.raise.ensures.1;
}

pub returns : goal.returns
unfolding fan_in
returns c =
    let e : c.loop-u.u ≡ c.args.table.now.board.vertices = omega arith in
    (c.loop-u.invariant.size, λ v h. c.loop-u.invariant.counted v h ∙ ap (λ (x : ℕ). above (graph_in c.args.table.now.board c.args.table.now.cells.now) x v) e)
