use Rattle.std.proofs.Common.{◌≡◌, ◌≤◌, ◌<◌, Bool, cond, ◌&&◌, ℕ, List, ℤ, get_or, length, drop, w64, to_z, of_z, sym, ap, ◌∙◌, rules, arith}
use Rattle.laws.specs.Bounded.{sum, each}
use Rattle.laws.proofs.Truth.{no_second, and_end}
use Rattle.graph.specs.Delay.{at}
use Rattle.timing.specs.Limits.{delay_limit, fits}
use Rattle.graph.specs.Graph.{Graph}
use Rattle.timing.specs.Table.{graph_of}
use Rattle.reduction.specs.Star.{to_centre, covered}
use Rattle.stars.specs.StarCells.{gap, meeting}
use Rattle.stars.specs.StarReady.{Bundle}
use Rattle.stars.proofs.Members.{each_pass, each_stop, each_end, sum_over_turn, sum_over_end, below_at, member_at, some-member}
use Rattle.stars.proofs.Sets.{set-size, set_wider, row_cells, row_wide}
use Rattle.stars.proofs.CentreCells.{first_row, gap_is, meeting_few, all_sum, row_sum}
use Rattle.stars.proofs.star.measure.Goals as goal
use Rattle.stars.proofs.star.measure.Goals.{After-in_range, then-not-in_range, else-not-in_range}

-- what one source adds is few
few_more : (n : ℕ) (S Ts : List ℕ) (g : Graph) → Bundle n S Ts g → n ≤ 90 → (row first : List ℤ) (c i : ℕ) → c ≡ meeting row first Ts (gap row first Ts) → i < length S → (c ≤ 90) × (i < 90)
few_more n S Ts g b few row first c i e l =
    (omega (arith, e, meeting_few row first Ts (gap row first Ts), set-size n Ts b.targets.under b.targets.apart), omega (arith, l, set-size n S b.sources.under b.sources.apart))

pub row-requires : goal.row-requires
row-requires c = let b = c.requires.sources in below_at c.args.table.now.board.vertices c.args.sources.now b.under 0 (some-member c.args.sources.now b.some)

pub row-requires-in-loop-s : goal.row-requires-in-loop-s
row-requires-in-loop-s c = below_at c.args.table.now.board.vertices c.args.sources.now c.requires.sources.under c.loop-s.s-index c.loop-s-test.true

pub invariant_of-arcs : goal.invariant_of-arcs
invariant_of-arcs c = record { targets_set = set_wider _ 90 c.args.targets.now c.args.table.now.board.sized.few c.requires.targets }

pub tally-e-requires : goal.tally-e-requires
tally-e-requires c =
    let n = c.args.table.now.board.vertices in
    let b = c.requires in
    row_wide n c.args.table.now.cells.now _ _ c.row-in-loop-s.ensures (below_at n _ b.sources.under c.loop-s.s-index c.loop-s-test.true) c.args.targets.now b.targets.under c.args.table.now.room

-- what the code asks of the delay from a source to the centre is what the verdict asks
asked : (c : After-in_range) → fits delay_limit (to_centre c.args.sources.now c.args.targets.now (graph_of c.args.table.now.board.vertices c.args.table.now.cells.now) (get_or c.args.sources.now c.loop-s.s-index 0)) ≡ c.in_range.result
asked c =
    let n = c.args.table.now.board.vertices in
    let t = c.args.table.now.cells.now in
    let S = c.args.sources.now in
    let b = c.requires in
    let i = c.loop-s.s-index in
    let low = below_at n S b.sources.under i c.loop-s-test.true in
    let head = first_row n t S c.row_copy-first.result (below_at n S b.sources.under 0 (some-member S b.sources.some)) c.args.table.now.board.sized.few c.args.table.now.room c.row.ensures c.row_copy-first.ensures in
    let e : to_z w64 (of_z w64 c.tally-e.result.0) ≡ c.tally-e.result.0 = search rules in
    ap (fits delay_limit) (sym (gap_is b c.row_copy-first.result head (get_or S i 0) (member_at S i c.loop-s-test.true) c.row-in-loop-s.result.now (row_cells n t (get_or S i 0) _ c.row-in-loop-s.ensures low)) ∙ sym c.tally-e.ensures.least) ∙ ap (λ (z : ℤ). fits delay_limit (at z)) (sym e) ∙ sym c.in_range.ensures

pub overflow_add-covered : goal.overflow_add-covered
overflow_add-covered c =
    omega (
      arith,
      few_more _ _ _ _ c.requires c.args.table.now.board.sized.few _ _ c.tally-e.result.1 c.loop-s.s-index c.tally-e.ensures.covered c.loop-s-test.true,
      c.loop-s.invariant.few,
    )

pub loop-s-preserved : goal.loop-s-preserved
loop-s-preserved c =
    let n = c.args.table.now.board.vertices in
    let t = c.args.table.now.cells.now in
    let S = c.args.sources.now in
    let Ts = c.args.targets.now in
    let b = c.requires in
    let l = c.loop-s in
    let i = l.s-index in
    let u = get_or S i 0 in
    let room = c.args.table.now.room in
    let low = below_at n S b.sources.under i c.loop-s-test.true in
    let first = c.row_copy-first.result in
    let head = first_row n t S first (below_at n S b.sources.under 0 (some-member S b.sources.some)) c.args.table.now.board.sized.few room c.row.ensures c.row_copy-first.ensures in
    let source = member_at S i c.loop-s-test.true in
    let row_is = row_cells n t u _ c.row-in-loop-s.ensures low in
    let saved : ℕ → ℕ = λ s. sum n (λ t'. cond (covered S Ts (graph_of n t) s t') 1 0) in
    let near : ℕ → Bool = λ s. fits delay_limit (to_centre S Ts (graph_of n t) s) in
    let ranged = (goal.at.loop-s-preserved c).After-in_range in
    let saved_is : saved u ≡ c.tally-e.result.1 = row_sum b first head u source c.row-in-loop-s.result.now row_is ∙ sym c.tally-e.ensures.covered in
    record {
      few = omega (arith, few_more _ _ _ _ b c.args.table.now.board.sized.few _ _ c.tally-e.result.1 i c.tally-e.ensures.covered c.loop-s-test.true, l.invariant.few);
      so_far = omega (arith, saved_is, l.invariant.so_far, sum_over_turn S i c.loop-s-test.true saved);
      fit = elim c.if-not-in_range.branch [
        | then-not-in_range w ↦ rw w.fits-is (sym (no_second l.fits (each (drop i S) near) (each_stop S i c.loop-s-test.true near (asked ranged ∙ w.if-not-in_range.true))) ∙ l.invariant.fit)
        | else-not-in_range w ↦ rw w.fits-is (ap (λ (b : Bool). l.fits && b) (sym (each_pass S i c.loop-s-test.true near (asked ranged ∙ w.if-not-in_range.false))) ∙ l.invariant.fit)
      ];
    }

pub returns : goal.returns
returns c =
    let n = c.args.table.now.board.vertices in
    let t = c.args.table.now.cells.now in
    let S = c.args.sources.now in
    let Ts = c.args.targets.now in
    let l = c.loop-s in
    let end : length S ≤ l.s-index = omega arith in
    let saved : ℕ → ℕ = λ s. sum n (λ t'. cond (covered S Ts (graph_of n t) s t') 1 0) in
    let near : ℕ → Bool = λ s. fits delay_limit (to_centre S Ts (graph_of n t) s) in
    record {
      covered = omega (arith, l.invariant.so_far, sum_over_end S l.s-index end saved, all_sum c.requires);
      fits = sym (and_end l.fits) ∙ ap (λ (b : Bool). l.fits && b) (sym (each_end S l.s-index end near)) ∙ l.invariant.fit;
    }
