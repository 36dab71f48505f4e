-- A step over the copied cells answers what the step over the whole run would, and its cells put back are the run's bytes afterwards.
use Rattle.std.specs.Prelude.{Err, Ok, Result}
use mathlib.Core.Path.{◌≡◌, refl, sym, ap, ◌∙◌}
use mathlib.Core.List.{List}
use Prim.Native.Nat.{ℕ, ◌*◌, ◌≤◌}
use native.Mathlib.Nat.{mul-le-mul}
use native.Mathlib.Omega.{arith}
use lib.Dec.{leb→le}
use lib.IntN.{ℤ, pos, neg_ℤ}
use lib.ListN.{length}
use Rattle.laws.specs.Lists.{rows}
use Rattle.laws.proofs.Lists.{length-rows}
use Rattle.graph.specs.Graph.{Graph}
use Rattle.graph.specs.Count.{arcs}
use Rattle.graph.proofs.Presence.{arcs_few}
use Rattle.timing.specs.declared.Refusal.{Refusal}
use Rattle.timing.specs.Limits.{max_vertices, absent_cell}
use Rattle.timing.specs.Refusal.{number, Verdict, refused, accepted, ◌then◌}
use Rattle.timing.specs.Table.{write_cell, with_graph}
use Rattle.timing.specs.Checks.{checked}
use Rattle.timing.proofs.Verdict.{then_accepted}
use Rattle.timing.proofs.Checks.{Passed, checked_accepted}
use Rattle.reduction.specs.Outcome.{Reduced, one_step}
use Rattle.reduction.specs.Steps.{Step, plan, step_on, step_call}
use Rattle.steps.specs.Reduces.{reduced_meaning, Reduces}
use Rattle.codec.proofs.Places.{AreBytes}
use Rattle.host.specs.Runs.{whole_cells, cells_of, with_cells}
use Rattle.host.specs.Answers.{step_answer, table_bytes}
use Rattle.host.proofs.Kept.{length-cells, new_cells}
use Rattle.host.proofs.Shown.{shown_is, small, checked_same, checked-room, lent_on, Copy}

then_joins : {A B C : Type 0} (x : Verdict A) (f : A → Verdict B) (h : B → Verdict C) → (x then λ a. f a then h) ≡ (x then f then h)
then_joins (refused r) f h = refl
then_joins (accepted a) f h = refl

module _ (m n N s : ℕ) (q : Step) where
  -- the new graph
  abbrev planned : List ℤ → Verdict Graph
  planned t = checked m n N s t then plan m n N q

  -- the call, from its new graph
  abbrev left : List ℤ → Verdict Graph → Verdict Reduced
  left t v = v then λ g. accepted (one_step N t g)

  step_of : (t : List ℤ) → step_call m n N s q t ≡ left t (planned t)
  unfolding step_call
  step_of t = then_joins (checked m n N s t) (plan m n N q) (λ g. accepted (one_step N t g))

  good : (t : List ℤ) (g : Graph) → planned t ≡ accepted g → Passed m n N t
  good t g e = let p = then_accepted (checked m n N s t) (plan m n N q) g e in (checked_accepted m n N s t p.0 p.1).good

  -- the arcs left are a small number
  few_left : (t : List ℤ) (x : Reduced) → accepted x ≡ step_call m n N s q t → x.arcs_left ≤ max_vertices * max_vertices
  few_left t x e =
      let p = then_accepted (planned t) (λ g. accepted (one_step N t g)) x (sym (e ∙ step_of t)) in
      of p.0 (small m n N (good t p.0 p.1).sizes).vertices p.2
    where
      of : (g : Graph) → N ≤ max_vertices → accepted (one_step N t g) ≡ accepted x → x.arcs_left ≤ max_vertices * max_vertices
      of g h k = let same : arcs N g ≡ x.arcs_left = cc in omega (arith, arcs_few N g, mul-le-mul h h)

  answer_same : (t' t : List ℤ) (v : Verdict Graph) → step_answer (left t' v) ≡ step_answer (left t v)
  answer_same t' t (refused r) = refl
  answer_same t' t (accepted g) = refl

  module _ (bytes : List ℕ) (are : AreBytes bytes) (t' : List ℤ) (copy : Copy N bytes t') where
    abbrev whole : List ℤ
    whole = cells_of 4 bytes

    call_of : step_call m n N s q t' ≡ left t' (planned whole)
    call_of = step_of t' ∙ ap (λ (v : Verdict Graph). left t' (v then plan m n N q)) (checked_same m n N s t' whole copy.front copy.long)

    bytes_same : (v : Verdict Graph) → planned whole ≡ v → table_bytes (left t' v) bytes ≡ table_bytes (left whole v) bytes
    unfolding with_graph
    bytes_same (refused r) e = refl
    bytes_same (accepted g) e =
        let p = good whole g e in
        let h = (small m n N p.sizes).vertices in
        let room : N * N ≤ whole_cells 4 bytes = omega (arith, length-cells 4 bytes, leb→le (N * N) (length whole) p.table) in
        new_cells 4 bytes are (omega arith) (rows N N (λ u v. write_cell absent_cell (g u v))) t' (N * N) (length-rows N (λ u v. write_cell absent_cell (g u v)) N)
        (omega (arith, copy.long, shown_is N N (length whole) h h)) room

    copy_answer : step_answer (step_call m n N s q t') ≡ step_answer (step_call m n N s q whole)
    copy_answer = ap step_answer call_of ∙ answer_same t' whole (planned whole) ∙ ap step_answer (sym (step_of whole))

    copy_bytes : table_bytes (step_call m n N s q t') bytes ≡ table_bytes (step_call m n N s q whole) bytes
    copy_bytes = ap (λ (v : Verdict Reduced). table_bytes v bytes) call_of ∙ bytes_same (planned whole) refl ∙ ap (λ (v : Verdict Reduced). table_bytes v bytes) (sym (step_of whole))

-- the step over a copy of the cells: it left `after`, and answered r
pub record Over (m n N s : ℕ) (q : Step) (bytes : List ℕ) (t' after : List ℤ) (r : Result ℕ Refusal) : Type 0 where
  pub are : AreBytes bytes
  pub copy : Copy N bytes t'
  pub call : Reduces (step_call m n N s q t') t' after r

module _ {m n N s : ℕ} {q : Step} {bytes : List ℕ} {t' after : List ℤ} {r : Result ℕ Refusal} (o : Over m n N s q bytes t' after r) where
  abbrev verdict : Verdict Reduced
  verdict = step_call m n N s q (cells_of 4 bytes)

  -- what the call said, once its answer is known to be x
  said : (x : Result ℕ Refusal) → r ≡ x → reduced_meaning x after ≡ step_call m n N s q t'
  said x e = ap (λ (y : Result ℕ Refusal). reduced_meaning y after) (sym e) ∙ o.call.answer

  said_answer : (x : Result ℕ Refusal) → r ≡ x → step_answer (reduced_meaning x after) ≡ step_answer verdict
  said_answer x e = ap step_answer (said x e) ∙ copy_answer m n N s q bytes o.are t' o.copy

  said_bytes : (x : Result ℕ Refusal) → r ≡ x → table_bytes (reduced_meaning x after) bytes ≡ table_bytes verdict bytes
  said_bytes x e = ap (λ (v : Verdict Reduced). table_bytes v bytes) (said x e) ∙ copy_bytes m n N s q bytes o.are t' o.copy

  pub arcs_small : (a : ℕ) → r ≡ Ok a → a ≤ max_vertices * max_vertices
  arcs_small a e = few_left m n N s q t' _ (said (Ok a) e)

  pub accepts : (a : ℕ) → r ≡ Ok a → (put : List ℕ) → put ≡ with_cells 4 after bytes → (pos a ≡ step_answer verdict) × (put ≡ table_bytes verdict bytes)
  accepts a e put p = (said_answer (Ok a) e, p ∙ said_bytes (Ok a) e)

  pub refuses : (x : Refusal) → r ≡ Err x → (neg_ℤ (pos (number x)) ≡ step_answer verdict) × (bytes ≡ table_bytes verdict bytes)
  refuses x e = (said_answer (Err x) e, said_bytes (Err x) e)

pub step_room : (m n N s : ℕ) (q : Step) (t : List ℤ) → step_call m n N (lent_on s) q t ≡ step_call m n N s q t
unfolding step_call
step_room m n N s q t = ap (λ (v : Verdict Graph). v then step_on m n N q t) (checked-room m n N s t)
