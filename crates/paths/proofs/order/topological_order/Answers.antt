use Rattle.std.proofs.Common.{◌≡◌, ◌≢◌, Some, refl, cond, ℕ, ◌+◌, ◌*◌, ◌<◌, ◌≤◌, List, length, take, length-take, get_or, get_or-take, ℤ, sym, ap, ◌∙◌, arith, add-one, set, length-set, get_or-set_same, get_or-set_other}
use native.Mathlib.Decide.{ℕ_discrete, dec_lt}
use lib.Dec.{eqb, eqb→eq}
use mathlib.Core.Path.{subst}
use Rattle.laws.proofs.Booleans.{is_true, is_false, cond_elim}
use Rattle.graph.specs.Count.{bit}
use Rattle.graph.proofs.Rank.{ranked_acyclic}
use Rattle.timing.specs.Limits.{max_vertices}
use Rattle.timing.specs.Table.{graph_of}
use Rattle.timing.proofs.Table.{graph_of_within}
use Rattle.timing.proofs.Checks.{no_cycle_acyclic, acyclic_no_cycle}
use Rattle.paths.specs.Cells.{cell_at, row_at}
use Rattle.paths.specs.Order.{TopologicalOrder}
use Rattle.paths.proofs.Rows.{row_at_cell, length-row_at}
use Rattle.paths.proofs.Sorting.{Going, going_start, going_step, going_kept, going_all, going_stuck, covers, order_ranked}
use Rattle.paths.proofs.order.topological_order.Goals as goal

same_some : {A : Type 0} {a b : A} → Some a ≡ Some b → a ≡ b
same_some e = cc

-- a turn: u is the vertex found, and `row` its row
module _ (n : ℕ) (t : List ℤ) (o f₀ : List ℕ) (p from u : ℕ) (row : List ℤ) (few : n ≤ max_vertices) (room : n * n ≤ length t) (G : Going n (graph_of n t) o f₀ p) (p-in : p < n) (u-in : u < n) (none : get_or f₀ u 0 ≡ 0)
    (placed : (v : ℕ) → v < from → 100 ≤ get_or f₀ v 0) (upto : from ≤ n) (is_row : row ≡ row_at n u t) where
  row_long : length row ≡ n
  row_long = ap length is_row ∙ length-row_at n t u room u-in

  row_bit : (v : ℕ) → v < n → bit (cell_at row v) ≡ bit (graph_of n t u v)
  row_bit v k = ap (λ (x : List ℤ). bit (cell_at x v)) is_row ∙ ap bit (row_at_cell n t u v u-in k)

  lowerable : (v : ℕ) → v < length row → bit (cell_at row v) ≤ get_or f₀ v 0
  lowerable v k = let l : v < n = omega (arith, row_long) in omega (arith, row_bit v l, covers (graph_of_within n t) G p-in u u-in none v l)

  module _ (f : List ℕ) (f-long : length f ≡ max_vertices) (low : (v : ℕ) → v < length row → get_or f v 0 + bit (cell_at row v) ≡ get_or f₀ v 0) where
    -- the others' counts, with 100 at u
    others : (v : ℕ) → v < n → v ≢ u → get_or (set f u 100) v 0 + bit (graph_of n t u v) ≡ get_or f₀ v 0
    others v k ne = omega (arith, get_or-set_other f u v 100 0 ne, row_bit v k, low v (omega (arith, row_long)))

    hundred : get_or (set f u 100) u 0 ≡ 100
    hundred = get_or-set_same f u 100 0 (omega arith)

    step : Going n (graph_of n t) (set o p u) (set f u 100) (p + 1)
    step = rw add-one (going_step (graph_of_within n t) G p-in u u-in none (set f u 100) others hundred)

    still : (v : ℕ) → v < cond (eqb u from) (u + 1) from → 100 ≤ get_or (set f u 100) v 0
    still v =
        cond_elim (λ (x : ℕ). v < x → 100 ≤ get_or (set f u 100) v 0) (eqb u from) (u + 1) from
        (λ b k. go k (eqb→eq u from b) (ℕ_discrete v u)) (λ _ k. kept k)
      where
        kept : v < from → 100 ≤ get_or (set f u 100) v 0
        kept k = going_kept (graph_of_within n t) G p-in u u-in none (omega arith) (set f u 100) others hundred v (omega arith) (placed v k)

        go : v < u + 1 → u ≡ from → Dec (v ≡ u) → 100 ≤ get_or (set f u 100) v 0
        go k e (yes q) = subst (λ (x : ℕ). 100 ≤ get_or (set f u 100) x 0) (sym q) (omega (arith, hundred))
        go k e (no ne) = kept (omega arith)

    still_upto : cond (eqb u from) (u + 1) from ≤ n
    still_upto = cond_elim (λ (x : ℕ). x ≤ n) (eqb u from) (u + 1) from (λ _. omega arith) (λ _. upto)

    turn : Going n (graph_of n t) (set o p u) (set f u 100) (p + 1) × (cond (eqb u from) (u + 1) from ≤ n) × ((v : ℕ) → v < cond (eqb u from) (u + 1) from → 100 ≤ get_or (set f u 100) v 0)
    turn = (step, still_upto, still)

-- a vertex whose count is 0 among the first n
module _ (n : ℕ) (fan : List ℕ) (room : n ≤ length fan) where
  part_long : length (take n fan) ≡ n
  part_long = omega (arith, length-take n fan)

  found : (u : ℕ) → (u < length (take n fan)) × (get_or (take n fan) u 0 ≡ 0) → (u < n) × (get_or fan u 0 ≡ 0)
  found u h = (omega (arith, h.0, part_long), sym (get_or-take n fan u 0 (omega (arith, h.0, part_long))) ∙ h.1)

pub loop-p-init : goal.loop-p-init
loop-p-init c = record {
  fan_size = c.fans-fan.ensures.0;
  order_size = refl;
  going = going_start _ _ _ _ (omega (arith, c.args.table.now.board.sized.few)) c.fans-fan.ensures.1;
  upto = omega arith;
  placed = λ v h. absurd (omega arith);
}

pub returns-in_default : goal.returns-in_default
returns-in_default c =
    let n = c.args.table.now.board.vertices in
    let t = c.args.table.now.cells.now in
    record {
      answer = sym (is_false _ (λ b. going_stuck (graph_of_within n t) c.loop-p.invariant.going c.loop-p-test.true (λ v h. waiting v h (dec_lt v c.loop-p.from))
          (no_cycle_acyclic n (graph_of n t) (graph_of_within n t) b)));
      order = λ o e. absurd (let q : ◌≡◌ {A = ℕ} 0 1 = cc in omega arith);
    }
  where
    long : length (take c.args.table.now.board.vertices c.loop-p.fan) ≡ c.args.table.now.board.vertices
    long = part_long c.args.table.now.board.vertices c.loop-p.fan (omega (arith, c.loop-p.invariant.fan_size, c.args.table.now.board.sized.few))

    waiting : (v : ℕ) → v < c.args.table.now.board.vertices → Dec (v < c.loop-p.from) → get_or c.loop-p.fan v 0 ≢ 0
    waiting v h (yes k) = λ e. omega (arith, c.loop-p.invariant.placed v k)
    waiting v h (no k) = λ e. c.in_default.ensures v (omega arith) (omega (arith, h, long)) (get_or-take c.args.table.now.board.vertices c.loop-p.fan v 0 h ∙ e)

pub lower-requires-clause-lowerable : goal.lower-requires-clause-lowerable
lower-requires-clause-lowerable c =
    let h = found c.args.table.now.board.vertices c.loop-p.fan (omega (arith, c.loop-p.invariant.fan_size, c.args.table.now.board.sized.few)) c.in-Some.u (c.in-Some.ensures.0, c.in-Some.ensures.1) in
    let i = c.loop-p.invariant in
    lowerable c.args.table.now.board.vertices c.args.table.now.cells.now c.loop-p.order c.loop-p.fan c.loop-p.p c.loop-p.from c.in-Some.u c.row.result.now c.args.table.now.board.sized.few c.args.table.now.room i.going c.loop-p-test.true h.0 h.1 i.placed i.upto c.row.ensures

pub loop-p-preserved : goal.loop-p-preserved
loop-p-preserved c =
    let h = found c.args.table.now.board.vertices c.loop-p.fan (omega (arith, c.loop-p.invariant.fan_size, c.args.table.now.board.sized.few)) c.in-Some.u (c.in-Some.ensures.0, c.in-Some.ensures.1) in
    let i = c.loop-p.invariant in
    let e = turn c.args.table.now.board.vertices c.args.table.now.cells.now c.loop-p.order c.loop-p.fan c.loop-p.p c.loop-p.from c.in-Some.u c.row.result.now c.args.table.now.board.sized.few c.args.table.now.room i.going c.loop-p-test.true h.0 h.1 i.placed i.upto c.row.ensures c.lower.new.fan c.lower.ensures.0 c.lower.ensures.1 in
    record { fan_size = simp length-set c.lower.ensures.0; order_size = simp length-set i.order_size; going = e.0; upto = rw c.past-from.ensures e.1; placed = rw c.past-from.ensures e.2 }

pub returns : goal.returns
returns c =
    let n = c.args.table.now.board.vertices in
    let t = c.args.table.now.cells.now in
    let o = going_all (graph_of_within n t) c.loop-p.invariant.going (omega arith) in
    record { answer = sym (is_true _ (acyclic_no_cycle n (graph_of n t) (ranked_acyclic (order_ranked o)))); order = λ q e. subst (TopologicalOrder n (graph_of n t)) (same_some e) o }
