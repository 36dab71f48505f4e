-- Signals that start at every vertex u at F u. G has the latest ones where it meets the local equations: nothing starts or arrives later than G says, and
-- each G v starts there or comes by a last arc.
use mathlib.Core.Path.{◌≡◌, sym, ap, ◌∙◌}
use mathlib.Core.Logic.{◌≢◌, ◌⊎◌, inl, inr}
use mathlib.Core.Bool.{Bool, cond}
use Prim.Native.Nat.{ℕ, zero, suc, ◌<◌}
use native.Mathlib.Nat.{not-suc-le-zero}
use native.Mathlib.Decide.{ℕ_discrete, dec_lt}
use native.Mathlib.Omega.{arith}
use borrow.Author.Tests.{lt-ltb, le-ltb}
use lib.Dec.{T, ltb}
use Rattle.graph.specs.Delay.{Delay, absent, present, immediate, ◌⋓◌, ◌⊕◌, ◌⊑◌, greatest}
use Rattle.graph.specs.Graph.{Graph, Acyclic, Longest, longest, walk, propagated}
use Rattle.graph.proofs.Delay.{absent_⊑, ⊑_refl, ⊑_trans, ⊑-antisym, ⊑-eq, ⊑-absent, immediate-⊕, ⊕-assoc, ⊕-left, ⊕-right, ⋓-elim, ⋓-l, ⋓-r, ⋓-lub, ⋓-absent, none_r, none_l}
use Rattle.graph.proofs.Presence.{absent_or}
use Rattle.graph.proofs.Greatest.{greatest_ge, greatest_lub, greatest_hit, greatest_ext}
use Rattle.graph.proofs.Longest.{Within, longest_is}
use Rattle.graph.proofs.Closure.{arc_⊑, extend, last_arc, none_round, walk_same, walk_other}
use Rattle.graph.proofs.Rank.{Ranked, ranked_acyclic}

pub record Settled (g : Graph) (F G : ℕ → Delay) : Type 0 where
  pub start : (v : ℕ) → F v ⊑ G v
  pub flow : (u v : ℕ) → G u ⊕ g u v ⊑ G v
  pub last : (v : ℕ) → (G v ⊑ F v) ⊎ ((u : ℕ) × (G v ⊑ G u ⊕ g u v))

-- the local equations have one solution
module _ {g : Graph} {F : ℕ → Delay} (r : Ranked g) where
  settled-⊑ : {G H : ℕ → Delay} → Settled g F G → Settled g F H → (n v : ℕ) → r.rank v < n → G v ⊑ H v
  settled-⊑ s t zero v h = absurd (not-suc-le-zero h)
  settled-⊑ {G} {H} s t (suc n) v h = go (settled-⊑ s t n) (s.last v)
    where
      go : ((u : ℕ) → r.rank u < n → G u ⊑ H u) → (G v ⊑ F v) ⊎ ((u : ℕ) × (G v ⊑ G u ⊕ g u v)) → G v ⊑ H v
      go ih (inl k) = ⊑_trans k (t.start v)
      go ih (inr (u, k)) = pick (absent_or (g u v))
        where
          pick : (g u v ≡ absent) ⊎ T (present (g u v)) → G v ⊑ H v
          pick (inl e) = ⊑_trans k (none_r (G u) e)
          pick (inr p) = ⊑_trans k (⊑_trans (⊕-right (g u v) (ih u (omega (arith, r.rise u v p)))) (t.flow u v))

  settled_same : {G H : ℕ → Delay} → Settled g F G → Settled g F H → (v : ℕ) → G v ≡ H v
  settled_same s t v = ⊑-antisym (settled-⊑ s t (suc (r.rank v)) v (omega arith)) (settled-⊑ t s (suc (r.rank v)) v (omega arith))

-- it is `propagated`
module _ {N : ℕ} {g : Graph} (w : Within N g) (a : Acyclic g) (F : ℕ → Delay) where
  l : Longest g (longest g N)
  l = longest_is N g w a

  abbrev P : ℕ → Delay
  P v = F v ⋓ greatest N (λ u. F u ⊕ longest g N u v)

  pub propagated-settled : Settled g F (propagated N g F)
  unfolding propagated
  propagated-settled = record { start = λ v. ⋓-l (F v) (come v); flow = λ u v. flow u v (absent_or (g u v)); last = λ v. ⋓-elim (λ (d : Delay). (d ⊑ F v) ⊎ ((u : ℕ) × (d ⊑ P u ⊕ g u v))) (F v) (come v) (inl (⊑_refl (F v))) (last v (greatest_hit N (λ u. F u ⊕ longest g N u v))) }
    where
      come : ℕ → Delay
      come v = greatest N (λ u. F u ⊕ longest g N u v)

      from : (u v : ℕ) → u < N → F u ⊕ longest g N u v ⊑ P v
      from u v h = ⊑_trans (greatest_ge N (λ u. F u ⊕ longest g N u v) u h) (⋓-r (F v) (come v))

      flow : (u v : ℕ) → (g u v ≡ absent) ⊎ T (present (g u v)) → P u ⊕ g u v ⊑ P v
      flow u v (inl e) = none_r (P u) e
      flow u v (inr t) = ⋓-elim (λ (d : Delay). d ⊕ g u v ⊑ P v) (F u) (come u)
          (⊑_trans (⊕-left (F u) (arc_⊑ l u v)) (from u v (w.in_range u v t).0)) (go (greatest_hit N (λ x. F x ⊕ longest g N x u)))
        where
          go : (come u ≡ absent) ⊎ ((x : ℕ) × (x < N) × (come u ≡ F x ⊕ longest g N x u)) → come u ⊕ g u v ⊑ P v
          go (inl e) = none_l (g u v) e
          go (inr (x, k, e)) = rw (e, ⊕-assoc (F x) (longest g N x u) (g u v)) (⊑_trans (⊕-left (F x) (extend l x u v)) (from x v k))

      last : (v : ℕ) → (come v ≡ absent) ⊎ ((u : ℕ) × (u < N) × (come v ≡ F u ⊕ longest g N u v)) → (come v ⊑ F v) ⊎ ((u : ℕ) × (come v ⊑ P u ⊕ g u v))
      last v (inl e) = inl (rw e (absent_⊑ (F v)))
      last v (inr (u, h, e)) = inr (go (last_arc l u v))
        where
          go : (longest g N u v ⊑ g u v) ⊎ ((x : ℕ) × (longest g N u v ⊑ longest g N u x ⊕ g x v)) → (x : ℕ) × (come v ⊑ P x ⊕ g x v)
          go (inl k) = (u, rw e (⊑_trans (⊕-left (F u) k) (⊕-right (g u v) (⋓-l (F u) (come u)))))
          go (inr (x, k)) = (x, rw e (⊑_trans (⊕-left (F u) k) (rw (← (⊕-assoc (F u) (longest g N u x) (g x v))) (⊕-right (g x v) (from u x h)))))

pub settled_is : {N : ℕ} {g : Graph} {F G : ℕ → Delay} → Within N g → Ranked g → Settled g F G → (v : ℕ) → G v ≡ propagated N g F v
settled_is {F = F} w r s = settled_same r s (propagated-settled w (ranked_acyclic r) F)

-- ---- the same as one equation for each vertex

module _ {N : ℕ} {g : Graph} {F G : ℕ → Delay} (w : Within N g) where
  pub settled_equation : Settled g F G → (v : ℕ) → G v ≡ F v ⋓ greatest N (λ u. G u ⊕ g u v)
  settled_equation s v = ⊑-antisym (go (s.last v)) (⋓-lub (s.start v) (greatest_lub N (λ u. G u ⊕ g u v) (G v) (λ u _. s.flow u v)))
    where
      go : (G v ⊑ F v) ⊎ ((u : ℕ) × (G v ⊑ G u ⊕ g u v)) → G v ⊑ F v ⋓ greatest N (λ u. G u ⊕ g u v)
      go (inl h) = ⊑_trans h (⋓-l (F v) (greatest N (λ u. G u ⊕ g u v)))
      go (inr (u, h)) = pick (absent_or (g u v))
        where
          pick : (g u v ≡ absent) ⊎ T (present (g u v)) → G v ⊑ F v ⋓ greatest N (λ u. G u ⊕ g u v)
          pick (inl e) = ⊑_trans h (none_r (G u) e)
          pick (inr t) = ⊑_trans h (⊑_trans (greatest_ge N (λ u. G u ⊕ g u v) u (w.in_range u v t).0) (⋓-r (F v) (greatest N (λ u. G u ⊕ g u v))))

  equation_settled : ((v : ℕ) → G v ≡ F v ⋓ greatest N (λ u. G u ⊕ g u v)) → Settled g F G
  equation_settled e = record {
    start = λ v. ⊑_trans (⋓-l (F v) (come v)) (⊑-eq (sym (e v)));
    flow = λ u v. flow u v (absent_or (g u v));
    last = λ v. rw (e v) (⋓-elim (λ (d : Delay). (d ⊑ F v) ⊎ ((u : ℕ) × (d ⊑ G u ⊕ g u v))) (F v) (come v) (inl (⊑_refl (F v))) (last v (greatest_hit N (λ u. G u ⊕ g u v))));
  }
    where
      come : ℕ → Delay
      come v = greatest N (λ u. G u ⊕ g u v)

      flow : (u v : ℕ) → (g u v ≡ absent) ⊎ T (present (g u v)) → G u ⊕ g u v ⊑ G v
      flow u v (inl z) = none_r (G u) z
      flow u v (inr t) = ⊑_trans (greatest_ge N (λ u. G u ⊕ g u v) u (w.in_range u v t).0) (⊑_trans (⋓-r (F v) (come v)) (⊑-eq (sym (e v))))

      last : (v : ℕ) → (come v ≡ absent) ⊎ ((u : ℕ) × (u < N) × (come v ≡ G u ⊕ g u v)) → (come v ⊑ F v) ⊎ ((u : ℕ) × (come v ⊑ G u ⊕ g u v))
      last v (inl z) = inl (rw z (absent_⊑ (F v)))
      last v (inr (u, _, z)) = inr (u, ⊑-eq z)

module _ {N : ℕ} {g : Graph} (w : Within N g) (r : Ranked g) (F : ℕ → Delay) where
  pub propagated_equation : (v : ℕ) → propagated N g F v ≡ F v ⋓ greatest N (λ u. propagated N g F u ⊕ g u v)
  propagated_equation = settled_equation w (propagated-settled w (ranked_acyclic r) F)

  -- the equations at the vertices below N say all
  pub equation_is : (H : ℕ → Delay) → ((v : ℕ) → v < N → H v ≡ F v ⋓ greatest N (λ u. H u ⊕ g u v)) → (v : ℕ) → v < N → H v ≡ propagated N g F v
  equation_is H e v h = sym (inside v h) ∙ settled_is w r (equation_settled w (λ v. go v (dec_lt v N))) v
    where
      K : ℕ → Delay
      K v = cond (ltb v N) (H v) (F v)

      inside : (v : ℕ) → v < N → K v ≡ H v
      inside v h = ap (λ (b : Bool). cond b (H v) (F v)) (lt-ltb v N h)

      go : (v : ℕ) → Dec (v < N) → K v ≡ F v ⋓ greatest N (λ u. K u ⊕ g u v)
      go v (yes h) = inside v h ∙ e v h ∙ ap (λ (d : Delay). F v ⋓ d) (greatest_ext N (λ u. H u ⊕ g u v) (λ u. K u ⊕ g u v) (λ u k. ap (λ (d : Delay). d ⊕ g u v) (sym (inside u k))))
      go v (no h) = ap (λ (b : Bool). cond b (H v) (F v)) (le-ltb v N (omega arith)) ∙ sym (ap (λ (d : Delay). F v ⋓ d) (⊑-absent (greatest_lub N (λ u. K u ⊕ g u v) absent (λ u _. none_r (K u) (outside u)))) ∙ ⋓-absent (F v))
        where
          outside : (u : ℕ) → g u v ≡ absent
          outside u = pick (absent_or (g u v))
            where
              pick : (g u v ≡ absent) ⊎ T (present (g u v)) → g u v ≡ absent
              pick (inl z) = z
              pick (inr t) = absurd (h (w.in_range u v t).1)

-- a signal from vertex i alone: the greatest walks from i
pub propagated_one : (N : ℕ) {g : Graph} → Acyclic g → Longest g (longest g N) → (F : ℕ → Delay) (i : ℕ) → i < N → F i ≡ immediate → ((u : ℕ) → u < N → u ≢ i → F u ≡ absent)
    → (v : ℕ) → v < N → propagated N g F v ≡ walk (longest g N) i v
unfolding propagated
propagated_one N {g} a l F i hi e none v hv = ap (λ (d : Delay). F v ⋓ d) single ∙ go (ℕ_discrete i v)
  where
    at_i : F i ⊕ longest g N i v ≡ longest g N i v
    at_i = ap (λ (d : Delay). d ⊕ longest g N i v) e ∙ immediate-⊕ (longest g N i v)

    each : (u : ℕ) → u < N → Dec (u ≡ i) → F u ⊕ longest g N u v ⊑ longest g N i v
    each u h (yes q) = rw q (⊑-eq at_i)
    each u h (no q) = none_l (longest g N u v) (none u h q)

    single : greatest N (λ u. F u ⊕ longest g N u v) ≡ longest g N i v
    single = ⊑-antisym (greatest_lub N (λ u. F u ⊕ longest g N u v) (longest g N i v) (λ u h. each u h (ℕ_discrete u i)))
        (⊑_trans (⊑-eq (sym at_i)) (greatest_ge N (λ u. F u ⊕ longest g N u v) i hi))

    go : Dec (i ≡ v) → F v ⋓ longest g N i v ≡ walk (longest g N) i v
    go (yes q) = rw (← q, e, none_round l a i, walk_same (longest g N) i)
    go (no q) = rw (none v hv (λ z. q (sym z)), walk_other (longest g N) i v q)
