-- A step's answer from its plan.
use Rattle.std.specs.Prelude.{Err, Ok, Result}
use mathlib.Core.Path.{◌≡◌, refl, sym, ap, ◌∙◌, subst}
use mathlib.Core.List.{List}
use lib.IntN.{ℤ}
use Rattle.graph.specs.Graph.{Graph}
use Rattle.timing.specs.declared.Refusal.{Refusal}
use Rattle.timing.specs.Refusal.{number, Verdict, refused, accepted, ◌then◌, Answers}
use Rattle.timing.specs.Table.{with_graph}
use Rattle.reduction.specs.Steps.{Step, plan}
use Rattle.paths.specs.declared.board.Board.{Board}
use Rattle.paths.specs.Board.{graph_in}
use Rattle.plans.specs.OnBoards.{fit_table, Applies}

module _ (b : Board) (t : List ℤ) (q : Step) where
  abbrev pub planned : Verdict Graph
  planned = plan b.inputs b.outputs b.vertices q (graph_in b t)

  -- the plan is that of a verdict v, from whose value a comes the new graph f a
  module _ {Value : Type 0} (f : Value → Graph) where
    abbrev put : Verdict Value → Verdict (List ℤ)
    put v = v then (λ a. accepted (f a)) then λ g'. accepted (with_graph b.vertices g' t)

    abbrev Puts : Verdict (List ℤ) → List ℤ → Result (Unit {0}) Refusal → Type 0
    Puts v after r = Answers fit_table (λ x. x) v t after r

    known : (v x : Verdict Value) → planned ≡ (v then λ a. accepted (f a)) → v ≡ x → (after : List ℤ) (r : Result (Unit {0}) Refusal) → Puts (put x) after r → Applies b q t after r
    known v x is e after r h = subst (λ (y : Verdict (List ℤ)). Puts y after r) (sym (ap (λ (y : Verdict Graph). y then λ g'. accepted (with_graph b.vertices g' t)) is ∙ ap put e)) h

    -- v is accepted, and the new graph is in the table
    pub step_done : {v : Verdict Value} (a : Value) → v ≡ accepted a → planned ≡ (v then λ x. accepted (f x)) → (after : List ℤ) → after ≡ with_graph b.vertices (f a) t → Applies b q t after (Ok tt)
    step_done {v} a e is after w = known v (accepted a) is e after (Ok tt) (record { answer = ap accepted w; left = w })

    -- the code hands the value on as y
    pub step_handed : {v : Verdict Value} {a y : Value} → v ≡ accepted a → y ≡ a → planned ≡ (v then λ x. accepted (f x)) → (after : List ℤ) → after ≡ with_graph b.vertices (f y) t → Applies b q t after (Ok tt)
    step_handed {v} {a} {y} e same is after w = step_done y (e ∙ ap accepted (sym same)) is after w

    pub step_refused : {v : Verdict Value} (x : Refusal) → v ≡ refused (number x) → planned ≡ (v then λ a. accepted (f a)) → Applies b q t t (Err x)
    step_refused {v} x e is = known v (refused (number x)) is e t (Err x) (record { answer = refl; left = refl })
