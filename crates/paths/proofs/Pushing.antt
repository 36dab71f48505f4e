-- The pass that `propagate` makes, as mathematics: what stands at v when the first p vertices of the order have pushed. At the end it has settled.
use mathlib.Core.Path.{◌≡◌, sym, ap, ◌∙◌, subst}
use mathlib.Core.Logic.{◌⊎◌, inl, inr}
use mathlib.Core.List.{List}
use Prim.Native.Nat.{ℕ, zero, suc, ◌+◌, ◌*◌, ◌≤◌, ◌<◌}
use native.Mathlib.Nat.{not-suc-le-zero}
use native.Mathlib.Decide.{ℕ_discrete}
use native.Mathlib.Omega.{arith}
use lib.Dec.{T}
use lib.ListN.{get_or}
use Rattle.graph.specs.Delay.{Delay, absent, present, ◌⋓◌, ◌⊕◌, ◌⊑◌}
use Rattle.graph.specs.Graph.{Graph}
use Rattle.graph.proofs.Delay.{absent_⊑, ⊑_refl, ⊑_trans, ⊕-absent, ⊕-right, ⋓-elim, ⋓-l, ⋓-r, ⋓-absent}
use Rattle.graph.proofs.Presence.{absent_or}
use Rattle.graph.proofs.Longest.{Within}
use Rattle.graph.proofs.Span.{InSpan, span_⊕, span_le}
use Rattle.graph.proofs.Propagation.{Settled}
use Rattle.paths.specs.Order.{TopologicalOrder, rank_of}

unfoldable pub pushed : Graph → List ℕ → (ℕ → Delay) → ℕ → ℕ → Delay
pushed g o F zero v = F v
pushed g o F (suc p) v = pushed g o F p v ⋓ (pushed g o F p (get_or o p 0) ⊕ g (get_or o p 0) v)

module _ {n : ℕ} {g : Graph} {o : List ℕ} (w : Within n g) (s : TopologicalOrder n g o) (F : ℕ → Delay) where
  -- how large it gets: F is within A, and each arc adds at most B
  pub pushed_span : (A B : ℕ) → ((v : ℕ) → v < n → InSpan A (F v)) → ((u v : ℕ) → InSpan B (g u v)) → (p v : ℕ) → p ≤ n → v < n → InSpan (A + p * B) (pushed g o F p v)
  unfolding pushed
  pushed_span A B a b zero v h l = span_le A (A + 0 * B) (F v) (omega arith) (a v l)
  pushed_span A B a b (suc p) v h l = go (λ v. pushed_span A B a b p v (omega arith))
    where
      go : ((v : ℕ) → v < n → InSpan (A + p * B) (pushed g o F p v)) → InSpan (A + suc p * B) (pushed g o F p v ⋓ (pushed g o F p (get_or o p 0) ⊕ g (get_or o p 0) v))
      go ih = ⋓-elim (InSpan (A + suc p * B)) (pushed g o F p v) (pushed g o F p (get_or o p 0) ⊕ g (get_or o p 0) v)
          (span_le (A + p * B) (A + suc p * B) (pushed g o F p v) (omega arith) (ih v l))
          (span_le (A + p * B + B) (A + suc p * B) (pushed g o F p (get_or o p 0) ⊕ g (get_or o p 0) v) (omega arith)
          (span_⊕ (A + p * B) B (pushed g o F p (get_or o p 0)) (g (get_or o p 0) v) (ih (get_or o p 0) (s.vertex p h).0) (b (get_or o p 0) v)))

  -- the local equations, for the arcs of the vertices that have pushed
  record Pushing (G : ℕ → Delay) (p : ℕ) : Type 0 where
    start : (v : ℕ) → F v ⊑ G v
    flow : (u v : ℕ) → rank_of n o u < p → G u ⊕ g u v ⊑ G v
    last : (v : ℕ) → (G v ⊑ F v) ⊎ ((u : ℕ) × (G v ⊑ G u ⊕ g u v))

  module _ (G : ℕ → Delay) (p : ℕ) (k : p < n) (P : Pushing G p) where
    abbrev x : ℕ
    x = get_or o p 0

    abbrev new : ℕ → Delay
    new v = G v ⋓ (G x ⊕ g x v)

    -- x pushes nothing to itself or to an earlier vertex
    same : (v : ℕ) → rank_of n o v ≤ p → new v ≡ G v
    same v h = go (absent_or (g x v))
      where
        go : (g x v ≡ absent) ⊎ T (present (g x v)) → new v ≡ G v
        go (inl e) = ap (λ (d : Delay). G v ⋓ (G x ⊕ d)) e ∙ ap (λ (d : Delay). G v ⋓ d) (⊕-absent (G x)) ∙ ⋓-absent (G v)
        go (inr t) = absurd (omega (arith, s.rise x v t, (s.vertex p k).1))

    push_step : Pushing new (suc p)
    push_step = record {
      start = λ v. ⊑_trans (P.start v) (⋓-l (G v) (G x ⊕ g x v));
      flow = λ u v l. rw (same u (omega arith)) (flow' u v l (absent_or (g u v)) (ℕ_discrete (rank_of n o u) p));
      last = λ v. ⋓-elim (λ (d : Delay). (d ⊑ F v) ⊎ ((u : ℕ) × (d ⊑ new u ⊕ g u v))) (G v) (G x ⊕ g x v) (old v (P.last v)) (inr (x, ⊕-right (g x v) (⋓-l (G x) (G x ⊕ g x x))));
    }
      where
        old : (v : ℕ) → (G v ⊑ F v) ⊎ ((u : ℕ) × (G v ⊑ G u ⊕ g u v)) → (G v ⊑ F v) ⊎ ((u : ℕ) × (G v ⊑ new u ⊕ g u v))
        old v (inl h) = inl h
        old v (inr (u, h)) = inr (u, ⊑_trans h (⊕-right (g u v) (⋓-l (G u) (G x ⊕ g x u))))

        flow' : (u v : ℕ) → rank_of n o u < suc p → (g u v ≡ absent) ⊎ T (present (g u v)) → Dec (rank_of n o u ≡ p) → G u ⊕ g u v ⊑ new v
        flow' u v l (inl e) _ = rw (e, ⊕-absent (G u)) (absent_⊑ (new v))
        flow' u v l (inr t) (yes e) =
            let q : x ≡ u = ap (λ (z : ℕ). get_or o z 0) (sym e) ∙ (s.place u (w.in_range u v t).0).1 in
            subst (λ (z : ℕ). G z ⊕ g z v ⊑ new v) q (⋓-r (G v) (G x ⊕ g x v))
        flow' u v l (inr t) (no ne) = ⊑_trans (P.flow u v (omega arith)) (⋓-l (G v) (G x ⊕ g x v))

  pushing : (p : ℕ) → p ≤ n → Pushing (pushed g o F p) p
  unfolding pushed
  pushing zero h = record { start = λ v. ⊑_refl (F v); flow = λ u v l. absurd (not-suc-le-zero l); last = λ v. inl (⊑_refl (F v)) }
  pushing (suc p) h = push_step (pushed g o F p) p h (pushing p (omega arith))

  -- nothing is left to push
  pub pushed_settled : Settled g F (pushed g o F n)
  pushed_settled =
      let P = pushing n (omega arith) in
      record { start = P.start; flow = λ u v. go u v P (absent_or (g u v)); last = P.last }
    where
      go : (u v : ℕ) → Pushing (pushed g o F n) n → (g u v ≡ absent) ⊎ T (present (g u v)) → pushed g o F n u ⊕ g u v ⊑ pushed g o F n v
      go u v P (inl e) = rw (e, ⊕-absent (pushed g o F n u)) (absent_⊑ _)
      go u v P (inr t) = P.flow u v (s.place u (w.in_range u v t).0).0
