-- A call's answer from its checks, its step and the count of arcs.
use Rattle.std.specs.Prelude.{Err, Ok, Result}
use mathlib.Core.Path.{◌≡◌, refl, sym, ap, ◌∙◌, subst}
use mathlib.Core.List.{List}
use Prim.Native.Nat.{ℕ}
use lib.IntN.{ℤ}
use Rattle.graph.specs.Graph.{Graph}
use Rattle.graph.specs.Count.{arcs}
use Rattle.timing.specs.declared.Refusal.{Refusal}
use Rattle.timing.specs.Refusal.{Verdict, refused, accepted, ◌then◌, left_by}
use Rattle.timing.specs.Table.{graph_of, with_graph}
use Rattle.reduction.specs.Outcome.{Reduced, one_step}
use Rattle.reduction.specs.Steps.{Step, step_on, step_call}
use Rattle.reduction.proofs.Steps.{plan_better}
use Rattle.reduction.proofs.Kept.{put_back}
use Rattle.paths.specs.declared.board.Board.{Board}
use Rattle.paths.specs.declared.sorted.Sorted.{Sorted}
use Rattle.paths.specs.Checked.{Checking, Checked}
use Rattle.paths.proofs.Tables.{passable_on}
use Rattle.paths.proofs.Answering.{answers_on, answers_refused}
use Rattle.plans.specs.OnBoards.{table_by, fit_table, Applies}
use Rattle.plans.proofs.Applying.{planned}
use Rattle.steps.specs.Reduces.{counted, reduced_meaning, Reduces}

module _ (N : ℕ) where
  -- a new table as what a step leaves
  abbrev count : List ℤ → Verdict Reduced
  count x = accepted (record { table = x; steps = 1; arcs_left = arcs N (graph_of N x) })

  counted_means : (r : Result (Unit {0}) Refusal) (after : List ℤ) → reduced_meaning (counted N r after) after ≡ (fit_table r after then count)
  counted_means (Ok tt) after = refl
  counted_means (Err x) after = refl

  count_leaves : (v : Verdict (List ℤ)) (t : List ℤ) → left_by (λ x. x) v t ≡ left_by (λ (x : Reduced). x.table) (v then count) t
  count_leaves (refused x) t = refl
  count_leaves (accepted x) t = refl

-- the arcs of the new table are those of the new graph
counted_step : (b : Board) (t : List ℤ) (q : Step) → Checked b t
    → (table_by b q t then count b.vertices) ≡ step_on b.inputs b.outputs b.vertices q t (graph_of b.vertices t)
counted_step b t q c = of (planned b t q) refl
  where
    of : (v : Verdict Graph) → planned b t q ≡ v → (v then (λ g'. accepted (with_graph b.vertices g' t)) then count b.vertices) ≡ (v then λ g'. accepted (one_step b.vertices t g'))
    of (refused x) e = refl
    of (accepted g) e = ap (λ (x : Graph). accepted (record { table = with_graph b.vertices g t; steps = 1; arcs_left = arcs b.vertices x })) (put_back b.inputs b.outputs b.vertices t g (plan_better c.sound q g e))

-- a step on a table that has passed its checks, with its arcs counted
pub step-counted : (b : Board) (t : List ℤ) (q : Step) → Checked b t → (after : List ℤ) (r : Result (Unit {0}) Refusal) → Applies b q t after r → (x : Result ℕ Refusal) → x ≡ counted b.vertices r after
    → Reduces (step_on b.inputs b.outputs b.vertices q t (graph_of b.vertices t)) t after x
step-counted b t q c after r h x k =
    let N = b.vertices in
    let v = table_by b q t in
    let whole = counted_step b t q c in
    record {
      answer = ap (λ (y : Result ℕ Refusal). reduced_meaning y after) k ∙ counted_means N r after ∙ ap (λ (y : Verdict (List ℤ)). y then count N) h.answer ∙ whole;
      left = h.left ∙ count_leaves N v t ∙ ap (λ (y : Verdict Reduced). left_by (λ (x : Reduced). x.table) y t) whole;
    }

module _ {m n N s : ℕ} {t : List ℤ} (q : Step) where
  pub call_done : (x : Sorted) → Checking m n N s t (Ok x) → (after : List ℤ) (r : Result (Unit {0}) Refusal) → Applies x.table.board q t after r → (y : Result ℕ Refusal) → y ≡ counted x.table.board.vertices r after → Reduces (step_call m n N s q t) t after y
  unfolding step_call
  call_done x c after r h y k =
      let b = x.table.board in
      let e = (c.lent x refl).0 in
      answers_on x c (λ m n N. step_on m n N q t) t after y
      (subst (λ (z : List ℤ). Reduces (step_on b.inputs b.outputs b.vertices q t (graph_of b.vertices z)) t after y) (sym e) (step-counted b t q (passable_on x e).checked after r h y k))

  pub call_refuses : (x : Refusal) → Checking m n N s t (Err x) → Reduces (step_call m n N s q t) t t (Err x)
  unfolding step_call
  call_refuses x c = answers_refused x c (step_on m n N q t) t (Err x) refl
