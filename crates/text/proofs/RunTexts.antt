-- The text of a run, from what the call answers and leaves.
use Rattle.run.specs.declared.answer.Ran.{Ran}
use Rattle.std.specs.Prelude.{Result, Ok}
use Rattle.timing.specs.declared.Refusal.{Refusal}
use mathlib.Core.Path.{◌≡◌, sym, ap, ◌∙◌}
use mathlib.Core.List.{List}
use Prim.Native.Nat.{ℕ, ◌*◌, ◌^◌, ◌<◌}
use native.Mathlib.Omega.{arith}
use lib.Dec.{leb→le}
use lib.IntN.{ℤ}
use lib.ListN.{length}
use Rattle.graph.proofs.Presence.{arcs_few}
use Rattle.timing.specs.Refusal.{Verdict, accepted}
use Rattle.timing.specs.Table.{graph_of}
use Rattle.timing.proofs.Checks.{Passed}
use Rattle.reduction.specs.Outcome.{Reduced}
use Rattle.reduction.specs.Run.{run_call}
use Rattle.reduction.proofs.Run.{run_gain}
use Rattle.paths.proofs.Sizes as Paths
use Rattle.paths.specs.declared.board.Board.{Board}
use Rattle.paths.specs.Checked.{Checked}
use Rattle.run.specs.Runs.{ran_meaning, Runs}
use Rattle.timing.specs.Checks.{sizes}
use Rattle.format.specs.Text.{run_text, most_scratch}

passed-checked : (b : Board) {t : List ℤ} → Passed b.inputs b.outputs b.vertices t → Checked b t
passed-checked b {t} p = record { lent = leb→le (b.vertices * b.vertices) (length t) p.table; sound = p.sound }

-- the table left has passed its checks, and both counts are small: each step costs an arc
pub ran_checked : (b : Board) (k : ℕ) (t : List ℤ) {after : List ℤ} {r : Result Ran Refusal} → Runs (run_call b.inputs b.outputs b.vertices k t) t after r → (x : Ran) → r ≡ Ok x → Checked b after × (x.steps < 10 ^ 4) × (x.arcs < 10 ^ 4)
ran_checked b k t {after} runs x q =
    let m = b.inputs in
    let n = b.outputs in
    let N = b.vertices in
    let e : run_call m n N k t ≡ accepted (record { table = after; steps = x.steps; arcs_left = x.arcs }) = sym runs.answer ∙ ap (λ (y : Result Ran Refusal). ran_meaning y after) q in
    let g = run_gain m n N k t _ e in
    let few = Paths.board_area b in
    (passed-checked b g.kept.passed, omega (arith, g.kept.fewer, arcs_few N (graph_of N t), few), omega (arith, g.counted, arcs_few N (graph_of N after), few))

module _ (m n N k : ℕ) (t : List ℤ) {after : List ℤ} {r : Result Ran Refusal} (runs : Runs (run_call m n N k t) t after r) where
  pub ran_text : (x : Result Ran Refusal) → r ≡ x → k ≡ most_scratch → run_text (sizes m n N) (ran_meaning x after) ≡ run_text (sizes m n N) (run_call m n N most_scratch t)
  ran_text x q e = ap (λ (v : Verdict Reduced). run_text (sizes m n N) v) (ap (λ (y : Result Ran Refusal). ran_meaning y after) (sym q) ∙ runs.answer ∙ ap (λ (j : ℕ). run_call m n N j t) e)
