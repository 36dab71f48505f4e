-- The parts of a round, one after another.
use mathlib.Core.Path.{ap, ◌∙◌}
use mathlib.Core.List.{List, [], ◌∷◌, ◌++◌}
use Prim.Native.Nat.{ℕ}
use Rattle.reduction.specs.Steps.{prune}
use Rattle.reduction.specs.Run.{Progress, Try, round, numbers, try_step, try_star, tries}
use Rattle.reduction.proofs.Rounds.{All, Gains}
use Rattle.reduction.proofs.Run.{append_all, all_map, step_gains, tries_gain}
use Rattle.run.specs.Sides.{Inputs, Outputs}
use Rattle.run.specs.VertexSteps.{VertexStep, Shrink, MergeBack}
use Rattle.run.specs.Sides.{share_tries}
use Rattle.run.specs.VertexSteps.{vertex_step, first_vertex, vertex_count, vertex_tries}
use Rattle.run.specs.Running.{Reaches}
use Rattle.run.proofs.Moving.{round-append}

-- one list of tries after another
reaches_on : (N : ℕ) (xs ys : ℕ → List Try) (p q r : Progress) → Reaches N xs p q → Reaches N ys q r → Reaches N (λ s. xs s ++ ys s) p r
reaches_on N xs ys p q r h k s room = round-append (xs s) (ys s) p ∙ ap (round (ys s)) (h s room) ∙ k s room

module _ (m n N : ℕ) where
  abbrev pub prune_try : ℕ → List Try
  prune_try s = try_step m n N s prune ∷ []

  pub prune_gain : (s : ℕ) → All (Gains m n N) (prune_try s)
  prune_gain s = (step_gains m n N s prune, tt)

  pub vertex_tries_gain : (kind : VertexStep) (s : ℕ) → All (Gains m n N) (vertex_tries m n N kind s)
  vertex_tries_gain kind s = all_map (Gains m n N) (λ v. try_step m n N s (vertex_step kind v)) (numbers (first_vertex kind m n) (vertex_count kind m n N)) (λ v. step_gains m n N s (vertex_step kind v))

  -- the five parts before the finder's
  abbrev pub before_star : ℕ → List Try
  before_star s = share_tries m n N Inputs s ++ share_tries m n N Outputs s ++ prune_try s ++ vertex_tries m n N Shrink s ++ vertex_tries m n N MergeBack s

  pub before_gain : (s : ℕ) → All (Gains m n N) (before_star s)
  unfolding tries
  before_gain s = (append_all (Gains m n N) (before_star s) (try_star m n N s ∷ []) (tries_gain m n N s)).0

  pub reaches_before : (p q r t u v : Progress) → Reaches N (share_tries m n N Inputs) p q → Reaches N (share_tries m n N Outputs) q r → Reaches N prune_try r t
      → Reaches N (vertex_tries m n N Shrink) t u → Reaches N (vertex_tries m n N MergeBack) u v → Reaches N before_star p v
  reaches_before p q r t u v a b c d e =
      reaches_on N (λ s. share_tries m n N Inputs s ++ share_tries m n N Outputs s ++ prune_try s ++ vertex_tries m n N Shrink s) (vertex_tries m n N MergeBack) p u v
      (reaches_on N (λ s. share_tries m n N Inputs s ++ share_tries m n N Outputs s ++ prune_try s) (vertex_tries m n N Shrink) p t u
      (reaches_on N (λ s. share_tries m n N Inputs s ++ share_tries m n N Outputs s) prune_try p r t (reaches_on N (share_tries m n N Inputs) (share_tries m n N Outputs) p q r a b) c) d) e

  -- and that make the round
  pub reaches_round : (p v w : Progress) → Reaches N before_star p v → Reaches N (λ s. try_star m n N s ∷ []) v w → Reaches N (tries m n N) p w
  unfolding tries
  reaches_round p v w a b = reaches_on N before_star (λ s. try_star m n N s ∷ []) p v w a b
