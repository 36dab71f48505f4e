-- The first sets of a longer list.
use Rattle.std.proofs.Common.{◌≡◌, sym, ap, ◌∙◌, subst, List, ℕ, length, take, arith}
use Rattle.std.proofs.lemmas.List.{places, get_or-take}
use Rattle.graph.specs.Graph.{Graph}
use Rattle.sets.specs.declared.Set.{Set}
use Rattle.sets.specs.Sets.{holds}
use Rattle.reach.specs.RowSets.{RowSets, Rowed}

-- the sets of a graph alone, where more are lent
pub front_long : {N : ℕ} {g : Graph} {sets : List Set} → RowSets N g sets → length (take N sets) ≡ N
front_long {N} {g} {sets} r = let h = r.long in grind (arith, places)

pub rowed_front : {N : ℕ} {g : Graph} {sets : List Set} → Rowed N g sets → Rowed (length (take N sets)) g (take N sets)
rowed_front {N} {g} {sets} r =
    subst (λ (n : ℕ). Rowed n g (take N sets)) (sym (front_long r.rows))
    (record {
      rows = record { long = omega (arith, front_long r.rows); row = λ u l v. ap (λ (s : Set). holds s v) (get_or-take N sets u _ l) ∙ r.rows.row u l v };
      inside = r.inside;
    })
