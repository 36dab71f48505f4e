-- What paths reach.
use mathlib.Core.Path.{◌≡◌, sym, subst}
use mathlib.Core.Logic.{◌⊎◌, inl, inr}
use mathlib.Core.Bool.{true, false, not, ◌&&◌}
use mathlib.Core.List.{List, [], ◌∷◌}
use Prim.Native.Nat.{ℕ, ◌<◌}
use lib.Dec.{T}
use Rattle.laws.proofs.Booleans.{and_i, and_e, true_or-not, split, is_true, is_false, true_is}
use Rattle.graph.specs.Delay.{Delay, present}
use Rattle.graph.specs.Graph.{Graph, path_delay, longest}
use Rattle.graph.proofs.Presence.{present_l, present_r, present-⊕}
use Rattle.graph.proofs.Longest.{Within, longest-reached}
use Rattle.graph.proofs.Cycle.{path_found}
use Rattle.sets.specs.declared.Set.{Set}
use Rattle.sets.specs.Sets.{holds, set_at}
use Rattle.reach.specs.RowSets.{RowSets, Rowed}
use Rattle.reach.specs.Spread.{Closed}
use Rattle.reach.proofs.Spreading.{Spreading}

pub within : {N : ℕ} {g : Graph} {sets : List Set} → Rowed N g sets → Within N g
within r = record { in_range = r.inside }

module _ (N : ℕ) (g : Graph) (w : Within N g) where
  -- from u to v there is a path
  abbrev R : ℕ → ℕ → Type 0
  R u v = T (present (longest g N u v))

  by_path : (u : ℕ) (xs : List ℕ) (v : ℕ) → T (present (path_delay g u xs v)) → R u v
  by_path u xs v t = path_found w u xs v t

  path_of : (u v : ℕ) → R u v → (xs : List ℕ) × T (present (path_delay g u xs v))
  path_of u v t = let p = longest-reached g N u v in (p.0, subst (λ (d : Delay). T (present d)) (sym p.1) t)

  by_arc : (u v : ℕ) → T (present (g u v)) → R u v
  by_arc u v t = by_path u [] v t

  arc_then : (u x v : ℕ) → T (present (g u x)) → R x v → R u v
  arc_then u x v t r = let p = path_of x v r in by_path u (x ∷ p.0) v (present-⊕ (g u x) (path_delay g x p.0 v) t p.1)

  -- a path begins with an arc
  first_arc : (u v : ℕ) → R u v → T (present (g u v)) ⊎ ((x : ℕ) × T (present (g u x)) × R x v)
  first_arc u v r = let p = path_of u v r in go p.0 p.1
    where
      go : (xs : List ℕ) → T (present (path_delay g u xs v)) → T (present (g u v)) ⊎ ((x : ℕ) × T (present (g u x)) × R x v)
      go [] t = inl t
      go (x ∷ xs) t = inr (x, present_l (g u x) (path_delay g x xs v) t, by_path x xs v (present_r (g u x) (path_delay g x xs v) t))

  -- an arc more at the end
  then_arc : (u x v : ℕ) → R u x → T (present (g x v)) → R u v
  then_arc u x v r t = let p = path_of u x r in along u p.0 p.1
    where
      along : (u : ℕ) (xs : List ℕ) → T (present (path_delay g u xs x)) → R u v
      along u [] s = arc_then u x v s (by_arc x v t)
      along u (y ∷ ys) s = arc_then u y v (present_l (g u y) (path_delay g y ys x) s) (along y ys (present_r (g u y) (path_delay g y ys x) s))

  -- a set that arcs do not leave has all that its members reach
  pub closed : (P : ℕ → Type 0) → ((x y : ℕ) → P x → T (present (g x y)) → P y) → (x v : ℕ) → P x → R x v → P v
  closed P h x v p r = let q = path_of x v r in along x q.0 p q.1
    where
      along : (x : ℕ) (xs : List ℕ) → P x → T (present (path_delay g x xs v)) → P v
      along x [] p s = h x v p s
      along x (y ∷ ys) p s = along y ys (h x y p (present_l (g x y) (path_delay g y ys v) s)) (present_r (g x y) (path_delay g y ys v) s)

  reached_in : (u v : ℕ) → R u v → v < N
  reached_in u v r = split (first_arc u v r) (λ t. (w.in_range u v t).1)
      (λ p. closed (λ x. x < N) (λ x y _ t. (w.in_range x y t).1) p.0 v (w.in_range u p.0 p.1).1 p.2)

  -- what paths from v lead to, from v's targets on
  from_targets : (sets : List Set) → RowSets N g sets → (v : ℕ) → v < N → Closed g (set_at sets v) (λ x. present (longest g N v x))
  from_targets sets rows v l = record { from = λ x t. by_arc v x (subst T (rows.row v l x) t); onward = λ x y r t. then_arc v x y r t }

  module _ (sets : List Set) (rows : RowSets N g sets) (v : ℕ) (l : v < N) (met done : Set) (m : Spreading g (set_at sets v) met done) where
    reached : (x : ℕ) → T (holds met x) → R v x
    reached = m.only (λ x. present (longest g N v x)) (from_targets sets rows v l)

    pub met_in : (x : ℕ) → T (holds met x) → x < N
    met_in x t = reached_in v x (reached x t)

    pub met_there : (u : ℕ) → holds met u ≡ true → true ≡ present (longest g N v u)
    met_there u e = sym (is_true (present (longest g N v u)) (reached u (true_is e)))

    -- all that is met is done
    pub met_all : (u : ℕ) → holds met u ≡ false → ((x : ℕ) → T (holds met x) → T (holds done x)) → false ≡ present (longest g N v u)
    met_all u e all = sym (is_false (present (longest g N v u)) (λ r. subst T e (split (first_arc v u r) (start u)
        (λ p. closed (λ x. T (holds met x)) (λ x y h t. m.onward x y (all x h) t) p.0 u (start p.0 p.1) p.2))))
      where
        start : (x : ℕ) → T (present (g v x)) → T (holds met x)
        start x t = m.start x (subst T (sym (rows.row v l x)) t)

-- what of `met` is left to be done
module _ (met done left : Set) (less : (u : ℕ) → holds left u ≡ (holds met u && not (holds done u))) where
  pub is_left : (x : ℕ) → T (holds left x) → T (holds met x) × T (not (holds done x))
  is_left x t = and_e (holds met x) (not (holds done x)) (subst T (less x) t)

  pub none_left : ((u : ℕ) → holds left u ≡ false) → (x : ℕ) → T (holds met x) → T (holds done x)
  none_left none x t = split (true_or-not (holds done x)) (λ k. k)
      (λ k. absurd (subst T (none x) (subst T (sym (less x)) (and_i (holds met x) (not (holds done x)) t k))))
