-- The other sources of a vertex's star, target by target.
use mathlib.Core.Path.{◌≡◌, sym, ◌∙◌, subst, ap}
use mathlib.Core.Logic.{◌≢◌, ◌⊎◌, inl, inr}
use mathlib.Core.Bool.{Bool, false, not, ◌&&◌, ◌||◌}
use Prim.Native.Nat.{ℕ, zero, suc, ◌<◌}
use lib.Dec.{T, T_not, not_T, eqb, ltb, lt→ltb, eqb→eq, eqb_refl}
use lib.ListN.{replicate}
use Rattle.laws.specs.Bounded.{each}
use Rattle.laws.proofs.Booleans.{and_i, and_e, or_cases, or_l, or_r, eq→eqb, is_false}
use Rattle.laws.proofs.Bounded.{each_at}
use Rattle.laws.proofs.Those.{those_of, each_those}
use Rattle.laws.proofs.Truth.{same_truth}
use Rattle.graph.specs.Delay.{present}
use Rattle.graph.specs.Graph.{Graph, reversed}
use Rattle.graph.proofs.Longest.{Within}
use Rattle.reduction.specs.FindStar.{targets_of, is_other_source}
use Rattle.sets.specs.declared.Set.{Set}
use Rattle.sets.specs.Sets.{holds, set_at}
use Rattle.sets.proofs.Members.{empty-member}
use Rattle.reach.specs.RowSets.{Targets}
use Rattle.finder.specs.Finding.{OthersOf}

module _ (N : ℕ) (g : Graph) (a : ℕ) where
  -- the targets in `done` have been asked: the members have arcs to all of these, and so has no other vertex but a
  pub record Narrowed (done others : Set) : Type 0 where
    pub targets : (t : ℕ) → T (holds done t) → T (present (g a t))
    pub apart : (s : ℕ) → T (holds others s) → s ≢ a
    pub joined : (s t : ℕ) → T (holds others s) → T (holds done t) → T (present (g s t))
    pub inside : (s : ℕ) → T (holds others s) → s < N
    pub all : (s : ℕ) → s ≢ a → ((t : ℕ) → T (holds done t) → T (present (g s t))) → T (holds others s)

  others_by : (s : ℕ) → s ≢ a → ((t : ℕ) → T (present (g a t)) → T (present (g s t))) → T (is_other_source N g a s)
  unfolding targets_of
  others_by s n h = and_i (not (eqb s a)) (each (targets_of N g a) (λ t. present (g s t))) (not_T (eqb s a) (λ e. n (eqb→eq s a e))) (each_those (λ t. present (g a t)) N (λ t. present (g s t)) (λ t _ k. h t k))

  others_parts : Within N g → (s : ℕ) → T (is_other_source N g a s) → (s ≢ a) × ((t : ℕ) → T (present (g a t)) → T (present (g s t)))
  unfolding targets_of
  others_parts w s h =
      let p = and_e (not (eqb s a)) (each (targets_of N g a) (λ t. present (g s t))) h in
      (λ e. T_not (eqb s a) p.0 (eq→eqb s a e), λ t k. each_at (targets_of N g a) (λ t. present (g s t)) p.1 t (those_of (λ t. present (g a t)) N t (w.in_range a t k).1 k))

  -- a vertex without targets
  pub untargeted : (all : Set) → ((s : ℕ) → holds all s ≡ (ltb s N && not (eqb s a))) → ((t : ℕ) → T (present (g a t)) → ⊥) → OthersOf N g a all
  untargeted all h none s = h s ∙ ap (λ (b : Bool). ltb s N && b) (same_truth (not (eqb s a)) (is_other_source N g a s)
      (λ k. others_by s (λ e. T_not (eqb s a) k (eq→eqb s a e)) (λ t z. absurd (none t z)))
      (λ k. (and_e (not (eqb s a)) (each (targets_of N g a) (λ t. present (g s t))) k).0))

  -- the first target
  module _ (t : ℕ) (there : T (present (g a t))) (done others into : Set) (one : (x : ℕ) → holds done x ≡ eqb x t) (to_into : Targets (reversed g) t into)
      (left : (s : ℕ) → holds others s ≡ (holds into s && not (eqb s a))) where
    pub narrowed_one : Within N g → Narrowed done others
    narrowed_one w = record {
      targets = λ x d. subst (λ (y : ℕ). T (present (g a y))) (sym (eqb→eq x t (subst T (one x) d))) there;
      apart = λ s k e. T_not (eqb s a) (parts s k).1 (eq→eqb s a e);
      inside = λ s k. (w.in_range s t (subst T (to_into s) (parts s k).0)).0;
      joined = λ s x k d. subst (λ (y : ℕ). T (present (g s y))) (sym (eqb→eq x t (subst T (one x) d))) (subst T (to_into s) (parts s k).0);
      all = λ s n h. subst T (sym (left s)) (and_i (holds into s) (not (eqb s a)) (subst T (sym (to_into s)) (h t (subst T (sym (one t)) (eqb_refl t)))) (not_T (eqb s a) (λ e. n (eqb→eq s a e))));
    }
      where
        parts : (s : ℕ) → T (holds others s) → T (holds into s) × T (not (eqb s a))
        parts s k = and_e (holds into s) (not (eqb s a)) (subst T (left s) k)

  -- one target more
  module _ (done others : Set) (h : Narrowed done others) (t : ℕ) (there : T (present (g a t))) (more fewer into : Set) (plus : (x : ℕ) → holds more x ≡ (eqb x t || holds done x))
      (to_into : Targets (reversed g) t into) (left : (s : ℕ) → holds fewer s ≡ (holds others s && holds into s)) where
    pub narrowed_on : Narrowed more fewer
    narrowed_on = record {
      targets = λ x d. asked x d (λ e. subst (λ (y : ℕ). T (present (g a y))) (sym e) there) (h.targets x);
      apart = λ s k. h.apart s (parts s k).0;
      inside = λ s k. h.inside s (parts s k).0;
      joined = λ s x k d. asked x d (λ e. subst (λ (y : ℕ). T (present (g s y))) (sym e) (subst T (to_into s) (parts s k).1)) (h.joined s x (parts s k).0);
      all = λ s n f. subst T (sym (left s)) (and_i (holds others s) (holds into s)
          (h.all s n (λ x d. f x (subst T (sym (plus x)) (or_r (eqb x t) (holds done x) d))))
          (subst T (sym (to_into s)) (f t (subst T (sym (plus t)) (or_l (eqb t t) (holds done t) (eqb_refl t))))));
    }
      where
        parts : (s : ℕ) → T (holds fewer s) → T (holds others s) × T (holds into s)
        parts s k = and_e (holds others s) (holds into s) (subst T (left s) k)

        asked : {P : Type 0} (x : ℕ) → T (holds more x) → (x ≡ t → P) → (T (holds done x) → P) → P
        asked {P} x d f k = go (or_cases (eqb x t) (holds done x) (subst T (plus x) d))
          where
            go : T (eqb x t) ⊎ T (holds done x) → P
            go (inl e) = f (eqb→eq x t e)
            go (inr z) = k z

  module _ (w : Within N g) (done others : Set) (h : Narrowed done others) where
    -- all have been asked
    pub narrowed_all : ((t : ℕ) → T (present (g a t)) → T (holds done t)) → OthersOf N g a others
    narrowed_all whole s = same_truth (holds others s) (ltb s N && is_other_source N g a s)
        (λ k. and_i (ltb s N) (is_other_source N g a s) (lt→ltb s N (h.inside s k)) (others_by s (h.apart s k) (λ t z. h.joined s t k (whole t z))))
        (λ k. let p = others_parts w s (and_e (ltb s N) (is_other_source N g a s) k).1 in h.all s p.0 (λ t d. p.1 t (h.targets t d)))

    -- none is left, whatever the other targets are
    pub narrowed_none : ((s : ℕ) → holds others s ≡ false) → OthersOf N g a others
    narrowed_none none s = none s ∙ sym (is_false (ltb s N && is_other_source N g a s) (λ k.
        let p = others_parts w s (and_e (ltb s N) (is_other_source N g a s) k).1 in
        subst T (none s) (h.all s p.0 (λ t d. p.1 t (h.targets t d)))))

-- sets that are all empty
pub all_empty : (e : Set) → ((u : ℕ) → holds e u ≡ false) → (n v u : ℕ) → holds (set_at (replicate n e) v) u ≡ false
all_empty e h zero v u = empty-member u
all_empty e h (suc n) zero u = h u
all_empty e h (suc n) (suc v) u = all_empty e h n v u
