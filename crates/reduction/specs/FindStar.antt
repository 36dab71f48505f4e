-- Find a star. For a vertex a with arcs out, T(a) is all its targets, rising, and S(a) is a, then every other vertex with arcs to all of T(a), rising; k is the smallest
-- inner number not in use. a is a candidate if star S(a), T(a), k would be accepted, and saves the arcs covered less |S| + |T|. The answer is the candidate that saves
-- most, the smallest on a tie, and that saving; or that there is none. The table stays.
use Rattle.std.specs.Prelude.{Bool, not, cond, ◌&&◌, Option, Some, None, List, ◌∷◌, ℕ, zero, suc, ◌+◌, ◌-◌, ltb, eqb, ℤ, length}
use Rattle.laws.specs.Bounded.{those, each}
use Rattle.graph.specs.Delay.{present}
use Rattle.graph.specs.Graph.{Graph}
use Rattle.timing.specs.Refusal.{Verdict, accepted, is_accepted, ◌then◌}
use Rattle.timing.specs.Checks.{checked}
use Rattle.reduction.specs.Outcome.{fresh_number}
use Rattle.reduction.specs.Star.{covered_arcs, star_verdict}
use Rattle.reduction.specs.Steps.{Step, star}

module _ (N : ℕ) (g : Graph) (a : ℕ) where
  -- T(a) and S(a)
  unfoldable pub targets_of : List ℕ
  targets_of = those N (λ t. present (g a t))

  abbrev pub is_other_source : ℕ → Bool
  is_other_source s = not (eqb s a) && each targets_of (λ t. present (g s t))

  unfoldable pub sources_of : List ℕ
  sources_of = a ∷ those N is_other_source

  unfoldable pub saving_of : ℕ
  saving_of = covered_arcs N sources_of targets_of g - (length sources_of + length targets_of)

-- a vertex, and what its star saves
pub record Found : Type 0 where
  pub vertex : ℕ
  pub saving : ℕ

-- a candidate saves an arc at least
abbrev pub saved_by : Option Found → ℕ
saved_by None = 0
saved_by (Some f) = f.saving

module _ (m n N : ℕ) where
  -- without arcs out T(a) is empty, which star refuses by 9; where no number is free k is N, which it refuses by 7
  unfoldable pub is_candidate : Graph → ℕ → Bool
  is_candidate g a = is_accepted (star_verdict m n N (sources_of N g a) (targets_of N g a) (fresh_number m n N g) g)

  -- the best of the vertices below a number: a greater one takes its place where it saves more
  unfoldable pub best_below : Graph → ℕ → Option Found
  best_below g zero = None
  best_below g (suc a) =
      let best = best_below g a in
      cond (is_candidate g a && ltb (saved_by best) (saving_of N g a)) (Some (record { vertex = a; saving = saving_of N g a })) best

  unfoldable pub find_star : Graph → Option Found
  find_star g = best_below g N

  -- the call with a scratch of s cells
  unfoldable pub find_star_call : ℕ → List ℤ → Verdict (Option Found)
  find_star_call s t = checked m n N s t then λ g. accepted (find_star g)

  -- a's star as a step
  abbrev pub star_of : Graph → ℕ → Step
  star_of g a = star (sources_of N g a) (targets_of N g a) (fresh_number m n N g)
