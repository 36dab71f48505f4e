use Rattle.std.proofs.Common.{◌≡◌, refl, ◌+◌, ◌-◌, ◌++◌, ◌*◌, ◌≤◌, ◌<◌, Bool, true, false, ℕ, List, ℤ, pos, T, get_or, take, drop, length, sym, ap, ◌∙◌, subst, arith}
use lib.ListN.{length-take, length-drop}
use Rattle.laws.specs.Bounded.{member}
use Rattle.laws.specs.Lists.{tabulate, rows}
use borrow.Rule.Slice.PartMut.{put_mid}
use Rattle.laws.proofs.Booleans.{true_is, is_true, eq→eqb, eqb_other}
use Rattle.laws.proofs.Bounded.{each_at}
use Rattle.laws.proofs.Filling.{rows_none, row_lent, row_back}
use Rattle.laws.proofs.Grid.{row_in, row_cell}
use Rattle.laws.proofs.Lists.{tabulate_same, is_tabulate}
use Rattle.graph.specs.Delay.{Delay}
use Rattle.timing.specs.Limits.{absent_cell, delay_limit, fits}
use Rattle.timing.specs.Table.{read_cell, write_cell, graph_of, with_graph}
use Rattle.timing.proofs.Table.{graph_of_at, graph_of_within}
use Rattle.paths.specs.Cells.{cell_at}
use Rattle.reduction.specs.Star.{first_of, to_centre, starred}
use Rattle.stars.specs.StarCells.{least_gap, cell_after}
use Rattle.stars.specs.StarReady.{StarReady}
use Rattle.stars.proofs.Members.{below_at, below_wider, some-member}
use Rattle.stars.proofs.Sets.{set_wider}
use Rattle.stars.proofs.CentreCells.{first_row, gap_is}
use Rattle.stars.proofs.StarTable.{row_made}
use Rattle.stars.proofs.RowCells.{of_centre, of_source, of_other}
use Rattle.stars.proofs.star.star_apply.Goals as goal
use Rattle.stars.proofs.star.star_apply.Goals.{then-u-k, else-u-k+then-is_source-u, else-u-k+else-is_source-u}

-- what stands at u → v in the end
abbrev new_cell : ℕ → List ℤ → List ℕ → List ℕ → ℕ → ℕ → ℕ → ℤ
new_cell N t S Ts k u v = write_cell absent_cell (starred S Ts k (graph_of N t) u v)

-- the row of u as it was, and what `row_after` makes of it
module _ (m o N : ℕ) (t : List ℤ) (S Ts : List ℕ) (k : ℕ) (room : N * N ≤ length t) (ready : StarReady m o N S Ts k (graph_of N t))
    (first : List ℤ) (first_is : (v : ℕ) → v < N → cell_at first v ≡ graph_of N t (first_of S) v) (u : ℕ) (l : u < N) (source : Bool) (source_is : source ≡ member u S) where
  abbrev row : List ℤ
  row = take N (drop (N * u) t)

  wide : length row ≡ N
  wide = simp (length-take, length-drop) (omega (arith, row_in N u l, room))

  row_is : (v : ℕ) → v < N → cell_at row v ≡ graph_of N t u v
  row_is v k = ap (read_cell absent_cell) (row_cell t (N * u) N v (pos 0) k) ∙ sym (graph_of_at N t u v l k)

  near : source ≡ true → T (fits delay_limit (least_gap row first Ts))
  near e =
      let ms : T (member u S) = true_is (sym source_is ∙ e) in
      subst (λ (d : Delay). T (fits delay_limit d)) (sym (gap_is ready.bundle first first_is u ms row row_is))
      (each_at S (λ s. fits delay_limit (to_centre S Ts (graph_of N t) s)) ready.near u ms)

  row_made_of : tabulate (length row) (cell_after row first Ts k u source) ≡ tabulate N (new_cell N t S Ts k u)
  row_made_of =
      ap (λ (n : ℕ). tabulate n (cell_after row first Ts k u source)) wide
      ∙ tabulate_same N _ _ (λ v j. row_made ready (graph_of_within N t) first first_is u row row_is v j source source_is)

pub row-requires-clause-u_lt_n : goal.row-requires-clause-u_lt_n
row-requires-clause-u_lt_n c = let b = c.requires.star_ready_on.bundle.sources in below_at c.args.board.vertices c.args.sources.now b.under 0 (some-member c.args.sources.now b.some)

pub marks-is_source-requires : goal.marks-is_source-requires
marks-is_source-requires c = below_wider c.args.board.vertices 90 c.args.sources.now c.args.board.sized.few c.requires.star_ready_on.bundle.sources.under

pub invariant_of-arcs : goal.invariant_of-arcs
invariant_of-arcs c = record { targets_set = set_wider _ 90 c.args.targets.now c.args.board.sized.few c.requires.star_ready_on.bundle.targets }

pub invariant_of-arcs-then-is_source-u : goal.invariant_of-arcs-then-is_source-u
invariant_of-arcs-then-is_source-u c = record { targets_set = set_wider _ 90 c.args.targets.now c.args.board.sized.few c.requires.star_ready_on.bundle.targets }

pub loop-u-init : goal.loop-u-init
loop-u-init c = rows_none _ _ _

pub source_row-requires-clause-gap_fits : goal.source_row-requires-clause-gap_fits
source_row-requires-clause-gap_fits c =
    let N = c.args.board.vertices in
    let t = c.args.table.now in
    let S = c.args.sources.now in
    let ready = c.requires.star_ready_on in
    let first_is = first_row N t S c.row_copy-first.result (below_at N S ready.bundle.sources.under 0 (some-member S ready.bundle.sources.some)) c.args.board.sized.few c.requires.lent c.row.ensures c.row_copy-first.ensures in
    let source_is = c.marks-is_source.ensures c.loop-u.u (omega (arith, c.loop-u-test.true, c.args.board.sized.few)) in
    let lent = row_lent N (new_cell N t S c.args.targets.now c.args.k) t c.loop-u.table c.loop-u.u c.loop-u.invariant in
    subst (λ (r : List ℤ). T (fits delay_limit (least_gap r c.row_copy-first.result c.args.targets.now))) (sym lent)
    (near _ _ N t S c.args.targets.now c.args.k c.requires.lent ready c.row_copy-first.result first_is c.loop-u.u c.loop-u-test.true _ source_is c.if-is_source-u.true)

pub loop-u-preserved : goal.loop-u-preserved
loop-u-preserved c =
    let N = c.args.board.vertices in
    let t = c.args.table.now in
    let S = c.args.sources.now in
    let Ts = c.args.targets.now in
    let k = c.args.k in
    let first = c.row_copy-first.result in
    let l = c.loop-u in
    let u = l.u in
    let ready = c.requires.star_ready_on in
    let first_is = first_row N t S first (below_at N S ready.bundle.sources.under 0 (some-member S ready.bundle.sources.some)) c.args.board.sized.few c.requires.lent c.row.ensures c.row_copy-first.ensures in
    let source = get_or c.marks-is_source.result u false in
    let source_is = c.marks-is_source.ensures u (omega (arith, c.loop-u-test.true, c.args.board.sized.few)) in
    let lent = row_lent N (new_cell N t S Ts k) t l.table u l.invariant in
    let row = take (N * u + N - N * u) (drop (N * u) l.table) in
    let back : (ys : List ℤ) → ys ≡ tabulate (length row) (cell_after row first Ts k u source) → put_mid (N * u) (N * u + N - N * u) l.table ys ≡ rows N (u + 1) (new_cell N t S Ts k) ++ drop (N * (u + 1)) t =
    λ ys q. row_back N (new_cell N t S Ts k) t l.table u l.invariant ys
    (q ∙ ap (λ (r : List ℤ). tabulate (length r) (cell_after r first Ts k u source)) lent ∙ row_made_of _ _ N t S Ts k c.requires.lent ready first first_is u c.loop-u-test.true _ source_is) in
    elim c.if-u-k.branch [
      | then-u-k w ↦ w.table-is ∙ back _ (w.centre_row.ensures ∙ tabulate_same (length row) _ _ (λ v _. sym (of_centre row first Ts k u source v (is_true _ (eq→eqb u k w.if-u-k.true)))))
      | else-u-k+then-is_source-u w ↦ w.table-is ∙ back _ (w.source_row.ensures ∙ tabulate_same (length row) _ _ (λ v _. sym (of_source row first Ts k u source v (eqb_other _ _ w.if-u-k.false) w.if-is_source-u.true)))
      | else-u-k+else-is_source-u w ↦ w.table-is ∙ back _ (is_tabulate (pos 0) row (length row) _ refl (λ v _. sym (of_other row first Ts k u source v (eqb_other _ _ w.if-u-k.false) w.if-is_source-u.false)))
    ]

pub returns : goal.returns
unfolding with_graph
returns c =
    let l = c.loop-u in
    let m : l.u ≡ c.args.board.vertices = omega arith in
    rw m at l.invariant
