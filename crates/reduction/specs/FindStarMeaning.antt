-- What the finder's answer says, and what the star that it finds takes. Proved in proofs/FindStar.antt.
use Rattle.std.specs.Option.{MatchOption}
use Rattle.std.specs.Prelude.{◌≡◌, not, ℕ, ◌+◌, ◌≤◌, ◌<◌, T}
use Rattle.graph.specs.Graph.{Graph}
use Rattle.graph.specs.Count.{arcs}
use Rattle.timing.specs.Sound.{Sound}
use Rattle.reduction.specs.Outcome.{fresh_number}
use Rattle.reduction.specs.Star.{starred}
use Rattle.reduction.specs.FindStar.{targets_of, sources_of, saving_of, Found, is_candidate, find_star}

-- the vertex is a candidate with that saving; every other candidate saves at most as much, and a smaller one less
pub record Best (m n N : ℕ) (g : Graph) (f : Found) : Type 0 where
  pub candidate : T (is_candidate m n N g f.vertex)
  pub saving : f.saving ≡ saving_of N g f.vertex
  pub most : (a : ℕ) → T (is_candidate m n N g a) → saving_of N g a ≤ f.saving
  pub smaller : (a : ℕ) → T (is_candidate m n N g a) → a < f.vertex → saving_of N g a < f.saving

-- where none is answered, no vertex is a candidate
abbrev pub FindStarMeaning : Type 0
FindStarMeaning = (m n N : ℕ) (g : Graph) → MatchOption (find_star m n N g) ((a : ℕ) → T (not (is_candidate m n N g a))) (Best m n N g)

-- a candidate's star takes as many arcs as it saves, one at least
pub record Takes (N : ℕ) (g g' : Graph) (saving : ℕ) : Type 0 where
  pub some : 0 < saving
  pub all : arcs N g' + saving ≡ arcs N g

abbrev pub SavingMeaning : Type 0
SavingMeaning = (m n N : ℕ) (g : Graph) → Sound m n N g → (a : ℕ) → T (is_candidate m n N g a)
    → Takes N g (starred (sources_of N g a) (targets_of N g a) (fresh_number m n N g) g) (saving_of N g a)
