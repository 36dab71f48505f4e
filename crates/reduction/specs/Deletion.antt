-- Repeated deletion: arcs that leave an inner vertex without arcs in go, in rounds, until none goes. What it comes to is in specs/DeletionMeaning.antt.
use Rattle.std.specs.Prelude.{Bool, not, ◌&&◌, ℕ, zero, suc, ltb, eqb}
use Rattle.graph.specs.Graph.{Graph}
use Rattle.graph.specs.Count.{fan_in, arcs}
use Rattle.reduction.specs.Outcome.{is_inner}
use Rattle.reduction.specs.Prune.{thinned}

module _ (m n N : ℕ) where
  -- an inner vertex without arcs in
  abbrev pub undriven : Graph → ℕ → Bool
  undriven g u = is_inner m n N u && eqb (fan_in N g u) 0

  unfoldable pub deletion_round : Graph → Graph
  deletion_round g u t = thinned (λ u _. not (undriven g u)) g u t

  unfoldable pub deletion_rounds : ℕ → Graph → Graph
  deletion_rounds zero g = g
  deletion_rounds (suc c) g = deletion_round (deletion_rounds c g)

  -- N rounds are enough: one more takes none
  abbrev pub deleted : Graph → Graph
  deleted g = deletion_rounds N g

  -- at least one arc goes
  abbrev pub deletes : Graph → Bool
  deletes g = ltb (arcs N (deleted g)) (arcs N g)
