-- The rounds as the loop makes them: one accepts nothing and is the last, or it leaves fewer arcs.
use Rattle.run.specs.declared.answer.Ran.{Ran}
use Rattle.std.specs.Prelude.{Err, Ok, Result}
use mathlib.Core.Path.{◌≡◌, refl, sym, ap, ◌∙◌, subst}
use mathlib.Core.Logic.{◌≢◌}
use mathlib.Core.Bool.{Bool, true, false, not, cond}
use mathlib.Core.List.{List}
use Prim.Native.Nat.{ℕ, suc, ◌<◌}
use native.Mathlib.Omega.{arith}
use lib.Dec.{T, eqb, eqb→eq}
use lib.IntN.{ℤ}
use Rattle.laws.proofs.Booleans.{cases, true_is, eqb_same, eqb_other, neqb→ne}
use Rattle.graph.specs.Count.{arcs}
use Rattle.timing.specs.Table.{graph_of}
use Rattle.timing.specs.declared.Refusal.{Refusal}
use Rattle.timing.specs.Refusal.{accepted}
use Rattle.reduction.specs.Run.{Progress, round, rounds, tries, reduce, whole_run, run_call}
use Rattle.reduction.proofs.Rounds.{round_less, fuel_enough}
use Rattle.reduction.proofs.Run.{tries_gain}
use Rattle.paths.specs.declared.sorted.Sorted.{Sorted}
use Rattle.paths.specs.Checked.{Checking}
use Rattle.paths.proofs.Answering.{answers_on, answers_refused}
use Rattle.run.specs.Running.{progress}
use Rattle.run.specs.Runs.{Runs, run_on}

module _ (m n N s : ℕ) (p q : Progress) (way : round (tries m n N s) p ≡ q) where
  abbrev arcs_at : Progress → ℕ
  arcs_at x = arcs N (graph_of N x.table)

  last_round : q.steps ≡ p.steps → rounds (suc (arcs N (graph_of N p.table))) (tries m n N s) p ≡ q
  unfolding rounds
  last_round e = rw (ap (λ (x : Progress). eqb x.steps p.steps) way ∙ ap (λ (x : ℕ). eqb x p.steps) e ∙ eqb_same p.steps) way

  module _ (ne : q.steps ≢ p.steps) where
    other : eqb (round (tries m n N s) p).steps p.steps ≡ false
    other = ap (λ (x : Progress). eqb x.steps p.steps) way ∙ eqb_other q.steps p.steps ne

    fewer_arcs : arcs N (graph_of N q.table) < arcs N (graph_of N p.table)
    fewer_arcs = subst (λ (x : Progress). arcs_at x < arcs_at p) way (round_less m n N (tries m n N s) (tries_gain m n N s) (arcs_at p) p (omega arith) (subst (λ (x : Bool). T (not x)) (sym other) tt))

    next_round : rounds (suc (arcs N (graph_of N q.table))) (tries m n N s) q ≡ rounds (suc (arcs N (graph_of N p.table))) (tries m n N s) p
    unfolding rounds
    next_round =
        fuel_enough m n N (tries m n N s) (tries_gain m n N s) (suc (arcs_at q)) (arcs_at p) q (omega arith) fewer_arcs
        ∙ ap (rounds (arcs_at p) (tries m n N s)) (sym way)
        ∙ sym (ap (λ (x : Bool). cond x (round (tries m n N s) p) (rounds (arcs_at p) (tries m n N s) (round (tries m n N s) p))) other)

-- where the loop stands: more rounds lead to the goal, or it is reached
abbrev pub Toward : ℕ → ℕ → ℕ → ℕ → Progress → Bool → Progress → Type 0
Toward m n N s goal true p = rounds (suc (arcs N (graph_of N p.table))) (tries m n N s) p ≡ goal
Toward m n N s goal false p = p ≡ goal

-- each round costs an arc, or is the last
abbrev pub rounds_left : ℕ → Bool → List ℤ → ℕ
rounds_left N true t = suc (arcs N (graph_of N t))
rounds_left N false t = 0

module _ (m n N s : ℕ) (p q : Progress) (way : round (tries m n N s) p ≡ q) where
  pub toward_next : (goal : Progress) → Toward m n N s goal true p → Toward m n N s goal (not (eqb q.steps p.steps)) q
  toward_next goal h = cases (eqb q.steps p.steps)
      (λ e. subst (λ (x : Bool). Toward m n N s goal (not x) q) (sym e) (sym (last_round m n N s p q way (eqb→eq q.steps p.steps (true_is e))) ∙ h))
      (λ e. subst (λ (x : Bool). Toward m n N s goal (not x) q) (sym e) (next_round m n N s p q way (neqb→ne q.steps p.steps (subst (λ (x : Bool). T (not x)) (sym e) tt)) ∙ h))

  pub fewer_left : rounds_left N (not (eqb q.steps p.steps)) q.table < suc (arcs N (graph_of N p.table))
  fewer_left = cases (eqb q.steps p.steps)
      (λ e. subst (λ (x : Bool). rounds_left N (not x) q.table < suc (arcs N (graph_of N p.table))) (sym e) (omega arith))
      (λ e. subst (λ (x : Bool). rounds_left N (not x) q.table < suc (arcs N (graph_of N p.table))) (sym e) (omega (arith, fewer_arcs m n N s p q way (neqb→ne q.steps p.steps (subst (λ (x : Bool). T (not x)) (sym e) tt)))))

-- what the loop answers
pub runs_done : (m n N s : ℕ) (t after : List ℤ) (c a : ℕ) → reduce m n N s t ≡ progress after c → a ≡ arcs N (graph_of N after) → Runs (accepted (whole_run m n N s t)) t after (Ok (record { steps = c; arcs = a }))
runs_done m n N s t after c a whole count = record {
  answer = ap (λ (x : ℕ). accepted (record { table = after; steps = c; arcs_left = x })) count
      ∙ sym (ap (λ (p : Progress). accepted (record { table = p.table; steps = p.steps; arcs_left = arcs N (graph_of N p.table) })) whole);
  left = sym (ap (λ (p : Progress). p.table) whole);
}

-- the call, from its checks and its rounds
module _ {m n N s : ℕ} {t : List ℤ} where
  pub run_done : (x : Sorted) → Checking m n N s t (Ok x) → (after : List ℤ) (r : Result Ran Refusal) → Runs (run_on x.table.board s t) t after r → Runs (run_call m n N s t) t after r
  unfolding run_call
  run_done x c after r h = answers_on x c (λ m n N _. accepted (whole_run m n N s t)) t after r h

  pub run_refused : (x : Refusal) → Checking m n N s t (Err x) → Runs (run_call m n N s t) t t (Err x)
  unfolding run_call
  run_refused x c = answers_refused x c (λ _. accepted (whole_run m n N s t)) t (Err x) refl
