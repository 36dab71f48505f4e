-- Prune: an arc is kept exactly when it lies on a path of delay M(i,j) for some joined i, j. All others go.
use Rattle.std.specs.Prelude.{Bool, cond, ◌&&◌, ℕ, ◌+◌, ltb}
use Rattle.laws.specs.Bounded.{some}
use Rattle.graph.specs.Delay.{absent, present, ◌⊕◌, eq_d}
use Rattle.graph.specs.Graph.{Graph, longest, walk}
use Rattle.graph.specs.Count.{arcs}
use Rattle.timing.specs.declared.Refusal.TheVariants.{NothingSaved}
use Rattle.timing.specs.Refusal.{Verdict, accepted, require}
use Rattle.reduction.specs.Outcome.{every_pair}

-- i and j are joined, and the greatest walk from i to u, the arc u→t and the greatest walk from t to j add up to D(i,j)
abbrev pub decides : Graph → Graph → ℕ → ℕ → ℕ → ℕ → Bool
decides D g u t i j = present (D i j) && eq_d (D i j) (walk D i u ⊕ (g u t ⊕ walk D t j))

-- it decides for some input and output whose pair counts
unfoldable pub critical : (ℕ → ℕ → Bool) → ℕ → ℕ → ℕ → Graph → ℕ → ℕ → Bool
critical counts m n N g u t = some m (λ i. some n (λ j. counts i (m + j) && decides (longest g N) g u t i (m + j)))

-- the arcs of g that stay
abbrev pub thinned : (ℕ → ℕ → Bool) → Graph → Graph
thinned stays g u t = cond (stays u t) (g u t) absent

unfoldable pub pruned : ℕ → ℕ → ℕ → Graph → Graph
pruned m n N g u t = thinned (critical every_pair m n N g) g u t

-- 13 where no arc would go
unfoldable pub prune_verdict : ℕ → ℕ → ℕ → Graph → Verdict (Unit {0})
prune_verdict m n N g = require (ltb (arcs N (pruned m n N g)) (arcs N g)) NothingSaved (accepted tt)
