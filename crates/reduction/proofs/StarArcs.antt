-- An accepted star: each source and each target has its arc at the centre, so that the arcs that go are more than those that come by what is saved; and each of
-- these two is part of a sum that an arc was equal to, so that a lean graph stays lean.
use mathlib.Core.Path.{◌≡◌, refl, sym, ap, ap₂, ◌∙◌, subst}
use mathlib.Core.Logic.{◌≢◌}
use mathlib.Core.Bool.{Bool, true, false, cond}
use mathlib.Core.List.{List}
use Prim.Native.Nat.{ℕ, ◌+◌, ◌≤◌}
use native.Mathlib.Decide.{ℕ_discrete}
use native.Mathlib.Omega.{arith}
use lib.Dec.{T}
use lib.ListN.{length}
use Rattle.laws.specs.Bounded.{member, each}
use Rattle.laws.proofs.Booleans.{T_true, cond_elim}
use Rattle.laws.proofs.Bounded.{each_at}
use Rattle.laws.proofs.Sums.{sum_le}
use Rattle.graph.specs.Delay.{Delay, absent, present, immediate, ◌⊕◌, ◌⊖◌, ◌⊑◌, least}
use Rattle.graph.specs.Graph.{Graph, longest, walk}
use Rattle.graph.specs.Count.{bit, fan_in, fan_out, arcs}
use Rattle.graph.proofs.Delay.{⊑_trans, ⊑-eq, ⊕-assoc, ⊕-mono, ⊕-left, ⊕-right, immediate-⊕, ⊖-⊕-same, ⊖-self}
use Rattle.graph.proofs.Presence.{not-present, bit-present, present-⊖}
use Rattle.graph.proofs.Closure.{arc_⊑, walk-⊒, walk_arc, path_walk}
use Rattle.timing.specs.Refusal.{accepted}
use Rattle.timing.specs.Sound.{Sound}
use Rattle.timing.proofs.Checks.{sound_within}
use Rattle.reduction.specs.Outcome.{every_pair}
use Rattle.reduction.specs.Prune.{critical}
use Rattle.reduction.specs.Star.{first_of, to_centre, from_centre, covered, covered_arcs, star_verdict, starred}
use Rattle.reduction.specs.Lean.{Lean}
use Rattle.reduction.proofs.Accepted.{StarAccepted, star_accepted}
use Rattle.reduction.proofs.Better.{Inner, Same, inner_of, unused_in, unused_out, rank_of, longest_of, input_inner, output_inner}
use Rattle.reduction.proofs.Shrink.{shrunk_same}
use Rattle.reduction.proofs.Star.{first_member, least_at, members_all, starred-shrunk, starred_is, star_in, star_out, star_cell, star_arcs, star_few, star_better}
use Rattle.reduction.proofs.Lean.{decided, carried}
use Rattle.reduction.proofs.LeanSteps.{walk_kept}

module _ {m n N : ℕ} (S Ts : List ℕ) (k : ℕ) {g : Graph} (x : Unit {0}) (s : Sound m n N g) (e : star_verdict m n N S Ts k g ≡ accepted x) where
  h : StarAccepted m n N S Ts k g
  h = star_accepted m n N S Ts k g x e

  abbrev g' : Graph
  g' = starred S Ts k g

  abbrev f : ℕ
  f = first_of S

  inner : Inner m n N k
  inner = inner_of m n N k h.inner

  arc : (u t : ℕ) → T (member u S) → T (member t Ts) → T (present (g u t))
  arc u t hu ht = each_at Ts (λ t. present (g u t)) (each_at S (λ s. each Ts (λ t. present (g s t))) h.joined u hu) t ht

  out : (t : ℕ) → g k t ≡ absent
  out = unused_out (sound_within s) k h.free

  into : (u : ℕ) → g u k ≡ absent
  into = unused_in (sound_within s) k h.free

  first_source : T (member f S)
  first_source = first_member S h.some_source

  -- ---- the arcs of the centre

  to_least : (u : ℕ) → T (member u S) → (t : ℕ) × T (member t Ts) × (to_centre S Ts g u ≡ g u t ⊖ g f t)
  unfolding to_centre
  to_least u hu =
      let p = least_at Ts (λ t. g u t ⊖ g f t) h.some_target in
      (p.0, p.1, ap (λ (b : Bool). cond b (least Ts (λ t. g u t ⊖ g f t)) absent) (T_true {b = member u S} hu) ∙ p.2)

  to_there : (u : ℕ) → T (member u S) → T (present (to_centre S Ts g u))
  to_there u hu =
      let p = to_least u hu in
      subst (λ (d : Delay). T (present d)) (sym p.2) (present-⊖ (g u p.0) (g f p.0) (arc u p.0 hu p.1) (arc f p.0 first_source p.1))

  from_is : (t : ℕ) → T (member t Ts) → from_centre S Ts g t ≡ g f t
  unfolding from_centre
  from_is t ht = ap (λ (b : Bool). cond b (g f t) absent) (T_true {b = member t Ts} ht)

  -- no source and no target is the centre
  source_other : (u : ℕ) → T (member u S) → u ≢ k
  source_other u hu q = let p = to_least u hu in not-present (g u p.0) (ap (λ (v : ℕ). g v p.0) q ∙ out p.0) (arc u p.0 hu p.1)

  target_other : (t : ℕ) → T (member t Ts) → t ≢ k
  target_other t ht q = not-present (g f t) (ap (g f) q ∙ into f) (arc f t first_source ht)

  to_is : (u : ℕ) → u ≢ k → g' u k ≡ to_centre S Ts g u
  unfolding starred
  to_is = star_in S Ts k g out into (covered S Ts g) (λ _ _ c. c)

  of_is : (t : ℕ) → g' k t ≡ from_centre S Ts g t
  unfolding starred
  of_is = star_out S Ts k g out into (covered S Ts g) (λ _ _ c. c)

  -- ---- what is saved

  full : length S + length Ts ≤ fan_in N g' k + fan_out N g' k
  unfolding fan_in fan_out starred
  full = omega (
    arith,
    members_all N S h.sources_below h.sources_apart,
    members_all N Ts h.targets_below h.targets_apart,
    sum_le N (λ u. cond (member u S) 1 0) (λ u. bit (g' u k)) (λ u _. counted (member u S) (g' u k) (λ hu. subst (λ (d : Delay). T (present d)) (sym (to_is u (source_other u hu))) (to_there u hu))),
    sum_le N (λ t. cond (member t Ts) 1 0) (λ t. bit (g' k t)) (λ t _. counted (member t Ts) (g' k t) (λ ht. subst (λ (d : Delay). T (present d)) (sym (of_is t ∙ from_is t ht)) (arc f t first_source ht))),
  )
    where
      counted : (b : Bool) (d : Delay) → (T b → T (present d)) → cond b 1 0 ≤ bit d
      counted b d there = cond_elim (λ (c : ℕ). c ≤ bit d) b 1 0 (λ t. omega (arith, bit-present d (there t))) (λ _. omega arith)

  -- the star takes the arcs covered and brings one for each source and each target
  pub star_takes : arcs N (starred S Ts k g) + covered_arcs N S Ts g ≡ arcs N g + (length S + length Ts)
  unfolding covered_arcs starred
  star_takes = omega (arith, full, star_arcs S Ts k g out into (covered S Ts g) (λ _ _ t. t) N inner.1, star_few S Ts k g out into (covered S Ts g) (λ _ _ t. t) N)

  -- ---- a lean graph

  module _ (lean : Lean m n N g) where
    abbrev D : Graph
    D = longest g N

    abbrev D' : Graph
    D' = longest (starred S Ts k g) N

    b : Same every_pair m n N g (starred S Ts k g)
    b = (star_better S Ts k x s e).same

    kept : (u v : ℕ) → u ≢ k → v ≢ k → walk D u v ⊑ walk D' u v
    unfolding starred
    kept u v hu hv = walk_kept D D' u v (λ ne. sym (shrunk_same (starred-shrunk (starred_is S Ts k g out into (covered S Ts g) (λ _ _ c. c))) (rank_of b.sound) (longest_of b.sound) (longest_of s) u v ne hu hv))

    -- where an arc is its sum through the centre, both parts decide
    parts : (u t : ℕ) → u ≢ k → t ≢ k → T (present (g u t)) → g u t ≡ g' u k ⊕ g' k t → T (critical every_pair m n N (starred S Ts k g) u k) × T (critical every_pair m n N (starred S Ts k g) k t)
    parts u t hu ht there sum =
        let w = decided u t (lean.deciding u t there) in
        let i = w.0.input in
        let j = w.0.output in
        let X = walk D' i u in
        let Y = walk D' t j in
        let l = longest_of b.sound in
        let a = b.sound.acyclic in
        let through = ⊑_trans w.1 (⊑_trans (⊕-mono (kept i u (input_inner s i k w.0.is_input inner) hu) (⊕-mono (⊑-eq sum) (kept t j ht (output_inner s j k w.0.is_output inner))))
        (⊑-eq (ap (λ (d : Delay). X ⊕ d) (⊕-assoc (g' u k) (g' k t) Y)))) in (
          carried b u k w.0 (⊑_trans through (⊕-left X (⊕-left (g' u k) (⊑_trans (⊕-right Y (arc_⊑ l k t)) (⊑_trans (path_walk a l k t j) (walk-⊒ a l k j)))))),
          carried b k t w.0 (⊑_trans through (⊑_trans (⊑-eq (sym (⊕-assoc X (g' u k) (g' k t ⊕ Y)))) (⊕-right (g' k t ⊕ Y) (⊑_trans (walk_arc a l i u k) (walk-⊒ a l i k))))),
        )

    -- a source's arc to the centre is part of its sum to some target
    into_decides : (u : ℕ) → T (member u S) → T (critical every_pair m n N (starred S Ts k g) u k)
    into_decides u hu =
        let p = to_least u hu in
        let t = p.0 in
        let there = arc u t hu p.1 in
        let sum = sym (⊖-⊕-same (g u t) (g f t) there (arc f t first_source p.1)) ∙ sym (ap₂ ◌⊕◌ (to_is u (source_other u hu) ∙ p.2) (of_is t ∙ from_is t p.1)) in
        (parts u t (source_other u hu) (target_other t p.1) there sum).0

    -- the first source's is immediate, so that each arc from the centre is the whole of a sum
    out_decides : (t : ℕ) → T (member t Ts) → T (critical every_pair m n N (starred S Ts k g) k t)
    out_decides t ht =
        let p = to_least f first_source in
        let here : to_centre S Ts g f ≡ immediate = p.2 ∙ ⊖-self (g f p.0) (arc f p.0 first_source p.1) in
        let sum = sym (immediate-⊕ (g f t)) ∙ sym (ap₂ ◌⊕◌ (to_is f (source_other f first_source) ∙ here) (of_is t ∙ from_is t ht)) in
        (parts f t (source_other f first_source) (target_other t ht) (arc f t first_source ht) sum).1

    pub starred_lean : Lean m n N (starred S Ts k g)
    unfolding starred to_centre from_centre
    starred_lean = record { deciding = λ u t there. go u t there (ℕ_discrete u k) (ℕ_discrete t k) }
      where
        only : (c : Bool) (d : Delay) → T (present (cond c d absent)) → T c
        only c d = cond_elim (λ (z : Delay). T (present z) → T c) c d absent (λ h _. h) (λ _ h. absurd h)

        go : (u t : ℕ) → T (present (g' u t)) → Dec (u ≡ k) → Dec (t ≡ k) → T (critical every_pair m n N (starred S Ts k g) u t)
        go u t there (yes p) _ = rw p (out_decides t (only (member t Ts) (g f t) (rw (p, of_is t) at there)))
        go u t there (no p) (yes q) = rw q (into_decides u (only (member u S) (least Ts (λ t. g u t ⊖ g f t)) (rw (q, to_is u p) at there)))
        go u t there (no p) (no q) = stays (covered S Ts g u t) refl
          where
            cell : g' u t ≡ cond (covered S Ts g u t) absent (g u t)
            cell = star_cell S Ts k g out into (covered S Ts g) (λ _ _ c. c) u t p q

            stays : (c : Bool) → covered S Ts g u t ≡ c → T (critical every_pair m n N (starred S Ts k g) u t)
            stays c e = by c (cell ∙ ap (λ (b : Bool). cond b absent (g u t)) e)
              where
                by : (c : Bool) → g' u t ≡ cond c absent (g u t) → T (critical every_pair m n N (starred S Ts k g) u t)
                by true z = absurd (not-present (g' u t) z there)
                by false z =
                    let w = decided u t (lean.deciding u t (subst (λ (d : Delay). T (present d)) z there)) in
                    carried b u t w.0 (⊑_trans w.1 (⊕-mono (kept w.0.input u (input_inner s w.0.input k w.0.is_input inner) p) (⊕-mono (⊑-eq (sym z)) (kept t w.0.output q (output_inner s w.0.output k w.0.is_output inner)))))
