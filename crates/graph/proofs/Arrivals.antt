-- Arrival times by their local equations. F holds the arrivals from vertex i where F i is 0, no arc makes any later, and each other one comes by a
-- last arc. In a graph with a rank such an F has the greatest delays from i: so a step keeps them if such an F can be written down for its new graph.
use mathlib.Core.Path.{◌≡◌, sym, ap, ◌∙◌}
use mathlib.Core.Logic.{◌≢◌, ◌⊎◌, inl, inr}
use mathlib.Core.List.{List, [], ◌∷◌, ◌++◌}
use Prim.Native.Nat.{ℕ, zero, suc, ◌<◌}
use native.Mathlib.Nat.{not-suc-le-zero}
use native.Mathlib.Decide.{ℕ_discrete}
use native.Mathlib.Omega.{arith}
use lib.Dec.{T}
use Rattle.graph.specs.Delay.{Delay, absent, present, immediate, ◌⊕◌, ◌⊑◌}
use Rattle.graph.specs.Graph.{Graph, path_delay, Acyclic, Longest, walk}
use Rattle.graph.proofs.Delay.{absent_⊑, ⊑_trans, ⊑-antisym, ⊑-eq, ⊕-absent, immediate-⊕, ⊕-assoc, ⊕-right}
use Rattle.graph.proofs.Presence.{absent_or}
use Rattle.graph.proofs.Longest.{path_append}
use Rattle.graph.proofs.Closure.{last_arc, walk_same, walk_other, walk-⊒, walk_arc}
use Rattle.graph.proofs.Rank.{Ranked}

pub record Arrivals (g : Graph) (i : ℕ) (F : ℕ → Delay) : Type 0 where
  pub start : F i ≡ immediate
  pub flow : (u v : ℕ) → F u ⊕ g u v ⊑ F v
  pub last : (v : ℕ) → v ≢ i → (u : ℕ) × (F v ⊑ F u ⊕ g u v)

module _ {g : Graph} {i : ℕ} {F : ℕ → Delay} (c : Arrivals g i F) where
  flow_path : (u : ℕ) (xs : List ℕ) (v : ℕ) → F u ⊕ path_delay g u xs v ⊑ F v
  flow_path u [] v = c.flow u v
  flow_path u (x ∷ xs) v = rw (← (⊕-assoc (F u) (g u x) (path_delay g x xs v))) (⊑_trans (⊕-right (path_delay g x xs v) (c.flow u x)) (flow_path x xs v))

  pub arrivals_bound : (xs : List ℕ) (v : ℕ) → path_delay g i xs v ⊑ F v
  arrivals_bound xs v = ⊑_trans (⊑-eq (sym (ap (λ (t : Delay). t ⊕ path_delay g i xs v) c.start ∙ immediate-⊕ (path_delay g i xs v)))) (flow_path i xs v)

  module _ (r : Ranked g) where
    back : (n v : ℕ) → r.rank v < n → v ≢ i → (xs : List ℕ) × (F v ⊑ path_delay g i xs v)
    back zero v h ne = absurd (not-suc-le-zero h)
    back (suc n) v h ne = go (back n) (c.last v ne).0 (c.last v ne).1
      where
        go : ((u : ℕ) → r.rank u < n → u ≢ i → (xs : List ℕ) × (F u ⊑ path_delay g i xs u)) → (u : ℕ) → F v ⊑ F u ⊕ g u v → (xs : List ℕ) × (F v ⊑ path_delay g i xs v)
        go ih u k = pick (ℕ_discrete u i) (absent_or (g u v))
          where
            pick : Dec (u ≡ i) → (g u v ≡ absent) ⊎ T (present (g u v)) → (xs : List ℕ) × (F v ⊑ path_delay g i xs v)
            pick (yes e) _ = ([], ⊑_trans k (⊑-eq (rw (e, c.start) (immediate-⊕ (g i v)))))
            pick (no n) (inl e) = ([], ⊑_trans k (⊑_trans (⊑-eq (rw e (⊕-absent (F u)))) (absent_⊑ (g i v))))
            pick (no n) (inr t) =
                let p = ih u (omega (arith, r.rise u v t)) n in
                (p.0 ++ u ∷ [], ⊑_trans k (⊑_trans (⊕-right (g u v) p.1) (⊑-eq (sym (path_append g i p.0 u [] v)))))

    pub arrivals-reached : (v : ℕ) → v ≢ i → (xs : List ℕ) × (F v ⊑ path_delay g i xs v)
    arrivals-reached v ne = back (suc (r.rank v)) v (omega arith) ne

    -- they are the greatest delays from i
    pub arrivals-longest : {L : Graph} → Longest g L → (v : ℕ) → v ≢ i → L i v ≡ F v
    arrivals-longest l v ne =
        ⊑-antisym (⊑_trans (⊑-eq (l.reached i v).1) (arrivals_bound (l.reached i v).0 v)) (⊑_trans (arrivals-reached v ne).1 (l.bound i (arrivals-reached v ne).0 v))

-- and the greatest delays from i are arrivals, with 0 at i itself
module _ {g L : Graph} (a : Acyclic g) (l : Longest g L) (i : ℕ) where
  pub walk-arrivals : Arrivals g i (walk L i)
  walk-arrivals = record { start = walk_same L i; flow = λ u v. ⊑_trans (walk_arc a l i u v) (walk-⊒ a l i v); last = λ v ne. go v ne (last_arc l i v) }
    where
      go : (v : ℕ) → v ≢ i → (L i v ⊑ g i v) ⊎ ((x : ℕ) × (L i v ⊑ L i x ⊕ g x v)) → (u : ℕ) × (walk L i v ⊑ walk L i u ⊕ g u v)
      go v ne (inl h) = (i, rw (walk_other L i v (λ e. ne (sym e)), walk_same L i, immediate-⊕ (g i v)) h)
      go v ne (inr (x, h)) = (x, rw (walk_other L i v (λ e. ne (sym e))) (⊑_trans h (⊕-right (g x v) (walk-⊒ a l i x))))
