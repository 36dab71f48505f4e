-- One try on a table that has passed its checks, and the steps that the code has counted after it.
use mathlib.Core.Path.{◌≡◌, refl, sym, ap, ◌∙◌}
use mathlib.Core.Bool.{Bool, true, false}
use mir.Val.{bool_byte}
use mathlib.Core.List.{List, [], ◌∷◌}
use Prim.Native.Nat.{ℕ, ◌+◌}
use native.Mathlib.Omega.{arith}
use lib.IntN.{ℤ}
use Rattle.timing.specs.Table.{graph_of}
use Rattle.reduction.specs.Steps.{Step}
use Rattle.reduction.specs.Run.{round, try_step}
use Rattle.reduction.proofs.Run.{step_gains}
use Rattle.laws.proofs.Grid.{area}
use Rattle.graph.proofs.Presence.{arcs_few}
use Rattle.timing.specs.Limits.{max_vertices}
use Rattle.paths.specs.declared.board.Board.{Board}
use Rattle.paths.specs.Checked.{Checked}
use Rattle.plans.specs.OnBoards.{table_by}
use Rattle.run.specs.Running.{progress, Running, Tries, Reaches}
use Rattle.run.proofs.Moving.{gained, moves, running_on}

-- the steps after a try whose answer r is known to be x
pub counts : {r x : Bool} (c : ℕ) {d : ℕ} → r ≡ x → d ≡ c + gained x → d ≡ c + gained r
counts c e q = q ∙ ap (λ (y : Bool). c + gained y) (sym e)

module _ {b : Board} {t : List ℤ} {c : ℕ} (h : Running b (progress t c)) (q : Step) (after : List ℤ) (r : Bool)
    (k : Tries (table_by b q t) t after r) (d : ℕ) (e : d ≡ c + gained r) where
  pub try_reaches : Reaches b.vertices (λ s. try_step b.inputs b.outputs b.vertices s q ∷ []) (progress t c) (progress after d)
  unfolding round
  try_reaches s room = moves h.checked q after r k s c room ∙ sym (ap (progress after) e)

  pub try_runs : Running b (progress after d)
  try_runs =
      running_on b (λ s. try_step b.inputs b.outputs b.vertices s q ∷ []) (progress t c) (progress after d)
      (λ s. (step_gains b.inputs b.outputs b.vertices s q, tt)) try_reaches h

-- the code counts a try by its answer as a number
pub gained_is : (r : Bool) → bool_byte r ≡ gained r
gained_is true = refl
gained_is false = refl

-- before any step
pub running_start : {b : Board} {t : List ℤ} → Checked b t → Running b (progress t 0)
running_start {b} {t} h = record { checked = h; bound = omega (arith, arcs_few b.vertices (graph_of b.vertices t), area b.vertices max_vertices b.sized.few) }

-- the table after an accepted try passes its checks
pub still_checked : {b : Board} {t : List ℤ} → Checked b t → (q : Step) (after : List ℤ) → Tries (table_by b q t) t after true → Checked b after
still_checked h q after k = (try_runs (running_start h) q after true k 1 refl).checked
