-- The vertices that lose their arcs after a share of inputs: the inner ones that no path leads to from another. They are found on the table before the share, where
-- the arcs out of b are passed over and the new vertex k, which a drives then, is one to begin with.
use mathlib.Core.Path.{◌≡◌, refl, sym, ap, ◌∙◌, subst}
use mathlib.Core.Logic.{◌⊎◌, inl, inr}
use mathlib.Core.Bool.{Bool, true, false, not, cond, ◌&&◌, ◌||◌}
use Prim.Native.Nat.{ℕ, ◌+◌, ◌<◌}
use native.Mathlib.Decide.{ℕ_discrete, dec_lt}
use native.Mathlib.Omega.{arith}
use lib.Dec.{T, T_not, not_T, eqb, eqb→eq, leb, ltb, le→leb, ltb→lt, lt→ltb}
use lib.IntN.{ℤ}
use Rattle.laws.proofs.Booleans.{and_i, and_e, or_l, or_r, or_cases, true_or-not, split, eq→eqb}
use Rattle.laws.proofs.Truth.{same_truth}
use Rattle.graph.specs.Delay.{Delay, absent, present}
use Rattle.graph.specs.Graph.{Graph}
use Rattle.graph.proofs.Presence.{not-present, at_present}
use Rattle.timing.specs.Refusal.{accepted}
use Rattle.timing.specs.Sound.{Sound}
use Rattle.timing.proofs.Checks.{sound_within}
use Rattle.reduction.specs.Outcome.{is_inner}
use Rattle.reduction.specs.ShareInputs.{inputs_shared, enough_out, share_inputs_verdict, inputs_reduced}
use Rattle.reduction.specs.DeletionMeaning.{driven}
use Rattle.reduction.proofs.Accepted.{ShareInputsAccepted, share_inputs_accepted}
use Rattle.reduction.proofs.Better.{inner_of, inner_is, unused_in, unused_out}
use Rattle.reduction.proofs.ShareInputs.{Shared, inputs_shared_by, inputs_shared_keeps}
use Rattle.reduction.proofs.DeletionMeaning.{driven_outside, driven_from, driven_onward, deletion_meaning}
use Rattle.sets.specs.declared.Set.{Set}
use Rattle.sets.specs.Sets.{holds}
use Rattle.reach.specs.Spread.{Spread, barred}
use Rattle.reach.proofs.Barring.{barred_out, barred_other}
use Rattle.reach.proofs.Reaching.{closed}
use Rattle.plans.specs.SharedRow.{without_arcs}

module _ {m n N : ℕ} {g : Graph} (a b k : ℕ) (e : ℤ) (s : Sound m n N g) (q : share_inputs_verdict m n N a b k g ≡ accepted e) where
  h : ShareInputsAccepted m n N a b k g e
  h = share_inputs_accepted m n N a b k g e q

  out : (v : ℕ) → g k v ≡ absent
  out = unused_out (sound_within s) k h.free

  in' : (u : ℕ) → g u k ≡ absent
  in' = unused_in (sound_within s) k h.free

  abbrev g' : Graph
  g' = inputs_shared a b k e g

  c : Shared a b k e g (inputs_shared a b k e g)
  c = inputs_shared_by a b k e s h.input_a h.input_b h.two h.inner h.free

  -- of no pair are the delays asked here
  s' : Sound m n N (inputs_shared a b k e g)
  s' = (inputs_shared_keeps (λ _ _. false) a b k e s h.input_a h.input_b h.two h.inner h.free (λ j l t. absurd t) h.in_range).sound

  low : (u : ℕ) → u < m + n → T (not (is_inner m n N u))
  low u l = not_T (is_inner m n N u) (λ t. omega (arith, (inner_of m n N u t).0))

  module _ (others met : Set) (first : (u : ℕ) → holds others u ≡ (eqb u k || (leb 0 u && ltb u (m + n)))) (spread : Spread (barred b g) others met) where
    begin_low : (u : ℕ) → u < m + n → T (holds met u)
    begin_low u l = spread.closed.from u (subst T (sym (first u)) (or_r (eqb u k) (leb 0 u && ltb u (m + n)) (and_i (leb 0 u) (ltb u (m + n)) (le→leb 0 u (omega arith)) (lt→ltb u (m + n) l))))

    begin_k : T (holds met k)
    begin_k = spread.closed.from k (subst T (sym (first k)) (or_l (eqb k k) (leb 0 k && ltb k (m + n)) (eq→eqb k k refl)))

    -- ---- what is met is driven

    k_driven : T (driven m n N (inputs_shared a b k e g) k)
    k_driven = driven_onward s' a k (driven_outside s' a (low a (omega (arith, h.input_a)))) (at_present c.a_k)

    met_driven : (u : ℕ) → T (holds met u) → T (driven m n N (inputs_shared a b k e g) u)
    met_driven = spread.least (driven m n N g') (record { from = from; onward = λ x y d t. onward x y d t (ℕ_discrete x b) (ℕ_discrete x a) (ℕ_discrete x k) (ℕ_discrete y k) })
      where
        from : (x : ℕ) → T (holds others x) → T (driven m n N (inputs_shared a b k e g) x)
        from x t = split (or_cases (eqb x k) (leb 0 x && ltb x (m + n)) (subst T (first x) t))
            (λ z. subst (λ (y : ℕ). T (driven m n N g' y)) (sym (eqb→eq x k z)) k_driven)
            (λ z. driven_outside s' x (low x (ltb→lt x (m + n) (and_e (leb 0 x) (ltb x (m + n)) z).1)))

        onward : (x y : ℕ) → T (driven m n N (inputs_shared a b k e g) x) → T (present (barred b g x y)) → Dec (x ≡ b) → Dec (x ≡ a) → Dec (x ≡ k) → Dec (y ≡ k) → T (driven m n N (inputs_shared a b k e g) y)
        onward x y d t (yes z) _ _ _ = absurd (not-present (barred b g x y) (rw z (barred_out b g y)) t)
        onward x y d t (no p) (yes z) _ _ = driven_onward s' k y k_driven (rw (c.hub y, sym z) (subst (λ (d : Delay). T (present d)) (barred_other b g x y p) t))
        onward x y d t (no p) (no _) (yes z) _ = absurd (not-present (barred b g x y) (barred_other b g x y p ∙ rw z (out y)) t)
        onward x y d t (no p) (no _) (no _) (yes z) = absurd (not-present (barred b g x y) (barred_other b g x y p ∙ rw z (in' x)) t)
        onward x y d t (no p) (no f) (no r) (no w) = driven_onward s' x y d (subst (λ (z : Delay). T (present z)) (barred_other b g x y p ∙ sym (c.rest x y f p r w)) t)

    -- ---- what is driven is met

    onward : (x y : ℕ) → T (holds met x) → T (present (inputs_shared a b k e g x y)) → T (holds met y)
    onward x y t there = go (ℕ_discrete y k) (ℕ_discrete x a) (ℕ_discrete x b) (ℕ_discrete x k)
      where
        go : Dec (y ≡ k) → Dec (x ≡ a) → Dec (x ≡ b) → Dec (x ≡ k) → T (holds met y)
        go (yes z) _ _ _ = rw z begin_k
        go (no w) (yes z) _ _ = absurd (not-present (g' x y) (rw z (c.a_out y w)) there)
        go (no w) (no _) (yes z) _ = absurd (not-present (g' x y) (rw z (c.b_out y w)) there)
        go (no w) (no _) (no _) (yes z) = spread.closed.onward a y (begin_low a (omega (arith, h.input_a)))
            (subst (λ (d : Delay). T (present d)) (sym (barred_other b g a y h.two)) (rw (z, c.hub y) at there))
        go (no w) (no f) (no p) (no r) = spread.closed.onward x y t (subst (λ (d : Delay). T (present d)) (c.rest x y f p r w ∙ sym (barred_other b g x y p)) there)

    driven_met : (u : ℕ) → u < N → T (driven m n N (inputs_shared a b k e g) u) → T (holds met u)
    driven_met u l d = split (driven_from s' u d) (outside u l) (λ v. closed N g' (sound_within s') (λ x. T (holds met x)) onward v.0 u (outside v.0 v.1 v.2) v.3)
      where
        outside : (v : ℕ) → v < N → T (not (is_inner m n N v)) → T (holds met v)
        outside v l t = pick (dec_lt v (m + n))
          where
            pick : Dec (v < m + n) → T (holds met v)
            pick (yes k) = begin_low v k
            pick (no k) = absurd (T_not (is_inner m n N v) t (inner_is m n N v (omega arith, l)))

    -- ---- the others among the inner vertices

    module _ (dead : Set) (left : (u : ℕ) → holds dead u ≡ ((leb (m + n) u && ltb u N) && not (holds met u))) where
      stays : (u : ℕ) → not (holds dead u) ≡ driven m n N (inputs_shared a b k e g) u
      stays u = same_truth (not (holds dead u)) (driven m n N g' u) (λ t. there t (true_or-not (is_inner m n N u)) (true_or-not (holds met u))) (λ d. not_T (holds dead u) (λ t.
          let p = and_e (leb (m + n) u && ltb u N) (not (holds met u)) (subst T (left u) t) in
          T_not (holds met u) p.1 (driven_met u (ltb→lt u N (and_e (leb (m + n) u) (ltb u N) p.0).1) d)))
        where
          there : T (not (holds dead u)) → T (is_inner m n N u) ⊎ T (not (is_inner m n N u)) → T (holds met u) ⊎ T (not (holds met u)) → T (driven m n N (inputs_shared a b k e g) u)
          there t (inr z) _ = driven_outside s' u z
          there t (inl z) (inl y) = met_driven u y
          there t (inl z) (inr y) = absurd (T_not (holds dead u) t (subst T (sym (left u)) (and_i (leb (m + n) u && ltb u N) (not (holds met u)) z y)))

      pub undriven_go : enough_out N g b ≡ false → (u v : ℕ) → inputs_reduced m n N a b k e g u v ≡ without_arcs dead (inputs_shared a b k e g) u v
      unfolding inputs_reduced without_arcs
      undriven_go few u v = rw few ((deletion_meaning s').stays u v ∙ ap (λ (x : Bool). cond x (g' u v) absent) (sym (stays u)))

  pub none_go : enough_out N g b ≡ true → (none : Set) → ((u : ℕ) → holds none u ≡ false) → (u v : ℕ) → inputs_reduced m n N a b k e g u v ≡ without_arcs none (inputs_shared a b k e g) u v
  unfolding inputs_reduced without_arcs
  none_go three none empty u v = rw (three, empty u) refl
