use Rattle.std.proofs.Common.{◌≡◌, ◌+◌, ◌<◌, ℕ, sym, ◌∙◌, arith}
use mathlib.Core.Path.{subst}
use lib.ListN.{set}
use lib.Seq.{get_or-set_same, get_or-set_other}
use Rattle.graph.specs.Delay.{present}
use Rattle.paths.specs.Tables.{timing_graph}
use Rattle.laws.proofs.Bounded.{below_suc}
use Rattle.sets.specs.Sets.{set_at}
use Rattle.reach.specs.RowSets.{Targets}
use Rattle.reach.proofs.Gathered.{Gathered}
use Rattle.reach.proofs.Gathering.{row_targets, sources_turn, sources_all}
use Rattle.reach.proofs.arc_sets.Goals as goal

-- a fact of each number below u, and of u
below_suc_at : (P : ℕ → Type 0) (u : ℕ) → ((y : ℕ) → y < u → P y) → P u → (y : ℕ) → y < u + 1 → P y
below_suc_at P u h p y l = below_suc P u h p y (omega (arith, l))

pub loop-u-preserved : goal.loop-u-preserved
loop-u-preserved c =
    let x = c.args.table.now in
    let N = x.board.vertices in
    let t = x.cells.now in
    let l = c.loop-u in
    let u = l.u in
    let here = c.loop-u-test.true in
    record {
      long = c.add_row.ensures.added.long ∙ l.invariant.long;
      targets = below_suc_at (λ y. Targets (timing_graph x) y (set_at (set l.targets u c.add_row.result) y)) u
          (λ y k. subst (Targets (timing_graph x) y) (sym (get_or-set_other l.targets u y c.add_row.result _ (λ e. omega (arith, e, k)))) (l.invariant.targets y k))
          (subst (Targets (timing_graph x) u) (sym (get_or-set_same l.targets u c.add_row.result _ (omega (arith, here, l.auto.targets, c.requires.targets_room))))
          (row_targets N t u x.room here c.row.result.now c.row.ensures c.add_row.result c.add_row.ensures.targets));
      sources = λ v k. sources_turn N t u x.room here c.row.result.now c.row.ensures l.sources c.add_row.new.sources c.add_row.ensures.added v k (l.invariant.sources v k);
    }

pub returns-clause-sources : goal.returns-clause-sources
returns-clause-sources c =
    let x = c.args.table.now in
    let l = c.loop-u in
    let end : l.u ≡ x.board.vertices = omega (arith, l.auto.u-end, c.loop-u-test.false) in
    record {
      long = omega (arith, l.invariant.long, c.requires.sources_room);
      row = λ v k. sources_all x.board.vertices x.cells.now v (set_at l.sources v) (subst (λ (n : ℕ). Gathered (λ y. present (timing_graph x y v)) n (set_at l.sources v)) end (l.invariant.sources v k));
    }
