-- Star over sources S, targets T, centre k, all arcs s→t present. With f the first source listed: k→t is the delay of f→t; s→k is the least,
-- over t in T, of delay(s→t) - delay(f→t). Arcs equal to their sum through k are covered and go; others stay.
use Rattle.std.specs.Prelude.{Bool, true, false, not, cond, ◌&&◌, List, [], ◌∷◌, ℕ, ◌+◌, ltb, eqb, length}
use Rattle.laws.specs.Bounded.{sum, member, each}
use Rattle.graph.specs.Delay.{Delay, absent, present, ◌⊕◌, ◌⊖◌, eq_d, least}
use Rattle.graph.specs.Graph.{Graph}
use Rattle.timing.specs.declared.Refusal.TheVariants.{WrongVertex, WrongSet, NumberTaken, WrongArcs, NothingSaved, DelayOutOfRange}
use Rattle.timing.specs.Limits.{delay_limit, fits}
use Rattle.timing.specs.Refusal.{Verdict, accepted, require}
use Rattle.reduction.specs.Outcome.{is_inner, unused}

abbrev pub non_empty : List ℕ → Bool
non_empty [] = false
non_empty (x ∷ xs) = true

abbrev pub distinct : List ℕ → Bool
distinct [] = true
distinct (x ∷ xs) = not (member x xs) && distinct xs

abbrev pub first_of : List ℕ → ℕ
first_of [] = 0
first_of (x ∷ xs) = x

-- s→k and k→t
unfoldable pub to_centre : List ℕ → List ℕ → Graph → ℕ → Delay
to_centre S Ts g u = cond (member u S) (least Ts (λ t. g u t ⊖ g (first_of S) t)) absent

unfoldable pub from_centre : List ℕ → List ℕ → Graph → ℕ → Delay
from_centre S Ts g t = cond (member t Ts) (g (first_of S) t) absent

unfoldable pub covered : List ℕ → List ℕ → Graph → ℕ → ℕ → Bool
covered S Ts g u t = present (g u t) && eq_d (g u t) (to_centre S Ts g u ⊕ from_centre S Ts g t)

-- the places at which f holds
abbrev pub holding : ℕ → (ℕ → ℕ → Bool) → ℕ
holding N f = sum N (λ u. sum N (λ t. cond (f u t) 1 0))

unfoldable pub covered_arcs : ℕ → List ℕ → List ℕ → Graph → ℕ
covered_arcs N S Ts g = holding N (covered S Ts g)

unfoldable pub star_verdict : ℕ → ℕ → ℕ → List ℕ → List ℕ → ℕ → Graph → Verdict (Unit {0})
star_verdict m n N S Ts k g =
    require (each S (λ s. ltb s N) && each Ts (λ t. ltb t N) && ltb k N) WrongVertex
    (require (non_empty S && non_empty Ts && distinct S && distinct Ts) WrongSet
    (require (is_inner m n N k && unused N g k) NumberTaken
    (require (each S (λ s. each Ts (λ t. present (g s t)))) WrongArcs
    (require (ltb (length S + length Ts) (covered_arcs N S Ts g)) NothingSaved
    (require (each S (λ s. fits delay_limit (to_centre S Ts g s))) DelayOutOfRange
    (accepted tt))))))

-- the arcs to and from the centre, and of the others those that are not gone
abbrev pub centred : (ℕ → ℕ → Bool) → List ℕ → List ℕ → ℕ → Graph → Graph
centred gone S Ts k g u t =
    cond (eqb u k) (from_centre S Ts g t)
    (cond (eqb t k) (to_centre S Ts g u)
    (cond (gone u t) absent
    (g u t)))

unfoldable pub starred : List ℕ → List ℕ → ℕ → Graph → Graph
starred S Ts k g u t = centred (covered S Ts g) S Ts k g u t
