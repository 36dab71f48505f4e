-- A list of marks that is made while a list of vertices is walked: what is marked or still to come are the members.
use mathlib.Core.Path.{◌≡◌, sym, ap, ◌∙◌}
use mathlib.Core.Bool.{Bool, true, false, ◌||◌}
use mathlib.Core.List.{List}
use Prim.Native.Nat.{ℕ, ◌+◌, ◌<◌}
use native.Mathlib.Decide.{ℕ_discrete}
use lib.ListN.{length, get_or, set, drop}
use lib.Seq.{get_or-set_same, get_or-set_other}
use Rattle.laws.specs.Bounded.{member}
use Rattle.laws.proofs.Booleans.{is_true, eqb_other}
use Rattle.stars.proofs.Members.{member_at, member_pass}

abbrev pub Marking : List ℕ → List Bool → ℕ → ℕ → Type 0
Marking xs marked i v = (get_or marked v false || member v (drop i xs)) ≡ member v xs

pub mark_turn : (xs : List ℕ) (marked : List Bool) (i v : ℕ) → i < length xs → get_or xs i 0 < length marked → Marking xs marked i v → Marking xs (set marked (get_or xs i 0) true) (i + 1) v
mark_turn xs marked i v l h m = go (ℕ_discrete v (get_or xs i 0))
  where
    go : Dec (v ≡ get_or xs i 0) → Marking xs (set marked (get_or xs i 0) true) (i + 1) v
    go (yes e) =
        ap (λ (y : ℕ). get_or (set marked (get_or xs i 0) true) y false || member y (drop (i + 1) xs)) e
        ∙ ap (λ (b : Bool). b || member (get_or xs i 0) (drop (i + 1) xs)) (get_or-set_same marked (get_or xs i 0) true false h)
        ∙ sym (is_true (member (get_or xs i 0) xs) (member_at xs i l)) ∙ ap (λ (y : ℕ). member y xs) (sym e)
    go (no n) =
        ap (λ (b : Bool). b || member v (drop (i + 1) xs)) (get_or-set_other marked (get_or xs i 0) v true false n)
        ∙ ap (λ (b : Bool). get_or marked v false || b) (sym (member_pass xs i l v (eqb_other v (get_or xs i 0) n))) ∙ m
