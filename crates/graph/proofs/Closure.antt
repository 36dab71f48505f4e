-- What the greatest delays of a graph satisfy: closed under going on, each reached by a last arc.
use mathlib.Core.Path.{◌≡◌, sym, ap, ◌∙◌}
use mathlib.Core.Logic.{◌≢◌, ◌⊎◌, inl, inr}
use mathlib.Core.Bool.{Bool, cond}
use mathlib.Core.List.{List, [], ◌∷◌, ◌++◌}
use Prim.Native.Nat.{ℕ}
use native.Mathlib.Decide.{ℕ_discrete}
use Rattle.laws.proofs.Booleans.{eqb_same, eqb_other}
use Rattle.graph.specs.Delay.{Delay, absent, immediate, ◌⊕◌, ◌⊑◌}
use Rattle.graph.specs.Graph.{Graph, path_delay, Acyclic, Longest, walk}
use Rattle.graph.proofs.Delay.{absent_⊑, ⊑_refl, ⊑_trans, ⊑-eq, ⊑-absent, none_r, ⊕-immediate, immediate-⊕, ⊕-assoc, ⊕-mono, ⊕-left, ⊕-right}
use Rattle.graph.proofs.Longest.{path_append}

module _ {g L : Graph} (l : Longest g L) where
  pub arc_⊑ : (u v : ℕ) → g u v ⊑ L u v
  arc_⊑ u v = l.bound u [] v

  pub closed : (u x v : ℕ) → L u x ⊕ L x v ⊑ L u v
  closed u x v = ⊑_trans (⊕-mono (⊑-eq (l.reached u x).1) (⊑-eq (l.reached x v).1))
      (⊑_trans (⊑-eq (sym (path_append g u (l.reached u x).0 x (l.reached x v).0 v))) (l.bound u ((l.reached u x).0 ++ x ∷ (l.reached x v).0) v))

  pub extend : (u x v : ℕ) → L u x ⊕ g x v ⊑ L u v
  extend u x v = ⊑_trans (⊕-left (L u x) (arc_⊑ x v)) (closed u x v)

  pub none_round : Acyclic g → (v : ℕ) → L v v ≡ absent
  none_round a v = (l.reached v v).1 ∙ a.no_loop v (l.reached v v).0

  last_path : (u : ℕ) (xs : List ℕ) (v : ℕ) → (path_delay g u xs v ⊑ g u v) ⊎ ((x : ℕ) × (path_delay g u xs v ⊑ L u x ⊕ g x v))
  last_path u [] v = inl (⊑_refl (g u v))
  last_path u (x ∷ xs) v = go (last_path x xs v)
    where
      go : (path_delay g x xs v ⊑ g x v) ⊎ ((y : ℕ) × (path_delay g x xs v ⊑ L x y ⊕ g y v)) → (g u x ⊕ path_delay g x xs v ⊑ g u v) ⊎ ((y : ℕ) × (g u x ⊕ path_delay g x xs v ⊑ L u y ⊕ g y v))
      go (inl h) = inr (x, ⊕-mono (arc_⊑ u x) h)
      go (inr (y, h)) = inr (y, ⊑_trans (⊕-mono (arc_⊑ u x) h) (rw (← (⊕-assoc (L u x) (L x y) (g y v))) (⊕-right (g y v) (closed u x y))))

  -- a greatest delay comes by a last arc
  pub last_arc : (u v : ℕ) → (L u v ⊑ g u v) ⊎ ((x : ℕ) × (L u v ⊑ L u x ⊕ g x v))
  last_arc u v = go (last_path u (l.reached u v).0 v)
    where
      go : (path_delay g u (l.reached u v).0 v ⊑ g u v) ⊎ ((x : ℕ) × (path_delay g u (l.reached u v).0 v ⊑ L u x ⊕ g x v)) → (L u v ⊑ g u v) ⊎ ((x : ℕ) × (L u v ⊑ L u x ⊕ g x v))
      go (inl h) = inl (⊑_trans (⊑-eq (l.reached u v).1) h)
      go (inr (x, h)) = inr (x, ⊑_trans (⊑-eq (l.reached u v).1) h)

  -- nothing leads to a vertex without arcs in
  pub undriven : (v : ℕ) → ((u : ℕ) → g u v ≡ absent) → (u : ℕ) → L u v ≡ absent
  undriven v h u = ⊑-absent (go (last_arc u v))
    where
      go : (L u v ⊑ g u v) ⊎ ((x : ℕ) × (L u v ⊑ L u x ⊕ g x v)) → L u v ⊑ absent
      go (inl k) = ⊑_trans k (⊑-eq (h u))
      go (inr (x, k)) = ⊑_trans k (none_r (L u x) (h x))

-- ---- walks: a path, or no arc at all

pub walk_same : (L : Graph) (v : ℕ) → walk L v v ≡ immediate
unfolding walk
walk_same L v = ap (λ (b : Bool). cond b immediate (L v v)) (eqb_same v)

pub walk_other : (L : Graph) (u v : ℕ) → u ≢ v → walk L u v ≡ L u v
unfolding walk
walk_other L u v n = ap (λ (b : Bool). cond b immediate (L u v)) (eqb_other u v n)

-- a property of a walk's delay, by the two cases
pub walk_elim : (L : Graph) (u v : ℕ) (P : Delay → Type 0) → (u ≡ v → P immediate) → (u ≢ v → P (L u v)) → P (walk L u v)
walk_elim L u v P p q = go (ℕ_discrete u v)
  where
    go : Dec (u ≡ v) → P (walk L u v)
    go (yes e) = rw (e, walk_same L v) (p e)
    go (no n) = rw (walk_other L u v n) (q n)

module _ {g L : Graph} (a : Acyclic g) (l : Longest g L) where
  pub walk-⊒ : (u v : ℕ) → L u v ⊑ walk L u v
  walk-⊒ u v = walk_elim L u v (λ (d : Delay). L u v ⊑ d) (λ e. rw e (⊑_trans (⊑-eq (none_round l a v)) (absent_⊑ immediate))) (λ _. ⊑_refl (L u v))

  -- a walk and an arc, or a walk and a path, make a path
  pub walk_arc : (u x v : ℕ) → walk L u x ⊕ g x v ⊑ L u v
  walk_arc u x v = walk_elim L u x (λ (d : Delay). d ⊕ g x v ⊑ L u v) (λ e. rw (e, immediate-⊕ (g x v)) (arc_⊑ l x v)) (λ _. extend l u x v)

  pub path_walk : (u x v : ℕ) → L u x ⊕ walk L x v ⊑ L u v
  path_walk u x v = walk_elim L x v (λ (d : Delay). L u x ⊕ d ⊑ L u v) (λ e. rw (← e, ⊕-immediate (L u x)) (⊑_refl (L u x))) (λ _. closed l u x v)
