-- A graph's arcs, cell by cell and row by row; and how many there are.
use mathlib.Core.Path.{◌≡◌, refl, ap, ◌∙◌}
use Prim.Native.Nat.{ℕ, ◌+◌}
use native.Mathlib.Omega.{arith}
use lib.ListN.{length}
use Rattle.laws.proofs.Sums.{sum_eq}
use Rattle.graph.specs.Delay.{Delay, absent, at}
use Rattle.graph.specs.Graph.{Graph}
use Rattle.graph.specs.Count.{bit, fan_out, arcs}
use Rattle.format.specs.Arcs.{arc_in, row_arcs, arcs_between, arcs_of}
use Rattle.files.proofs.Turns.{Parts, turns_length}

pub row_parts : (g : Graph) (u : ℕ) → Parts (λ v. arc_in u v (g u v)) (row_arcs g u)
unfolding row_arcs
row_parts g u = record { none = λ v. refl; next = λ v c. refl }

pub rows_parts : (N : ℕ) (g : Graph) → Parts (λ u. row_arcs g u 0 N) (arcs_between N g)
unfolding arcs_between
rows_parts N g = record { none = λ u. refl; next = λ u c. refl }

-- ---- counts

cell_count : (u v : ℕ) (d : Delay) → length (arc_in u v d) ≡ bit d
unfolding bit
cell_count u v absent = refl
cell_count u v (at z) = refl

module _ (N : ℕ) (g : Graph) where
  row_count : (u : ℕ) → length (row_arcs g u 0 N) ≡ fan_out N g u
  unfolding fan_out
  row_count u =
      turns_length (row_parts g u) 0 N
      ∙ sum_eq N (λ v. length (arc_in u (0 + v) (g u (0 + v)))) (λ v. bit (g u v)) (λ v l. cell_count u (0 + v) (g u (0 + v)) ∙ ap (λ (k : ℕ). bit (g u k)) (omega arith))

  pub arcs_count : length (arcs_of N g) ≡ arcs N g
  unfolding arcs
  arcs_count =
      turns_length (rows_parts N g) 0 N
      ∙ sum_eq N (λ u. length (row_arcs g (0 + u) 0 N)) (fan_out N g) (λ u l. row_count (0 + u) ∙ ap (fan_out N g) (omega arith))
