-- Repeated deletion keeps the delays of all pairs; it takes an arc exactly where its first round does.
use mathlib.Core.Path.{◌≡◌, refl, sym, ap, ◌∙◌, subst, fun_ext}
use mathlib.Core.Logic.{◌⊎◌, inl, inr}
use mathlib.Core.Bool.{Bool, false, not, cond, ◌&&◌}
use Prim.Native.Nat.{ℕ, zero, suc, ◌≤◌, ◌<◌}
use native.Mathlib.Omega.{arith}
use borrow.Author.Tests.{lt-ltb, le-ltb}
use lib.Dec.{T, not_T, eqb, eqb→eq, ltb, ltb→lt, lt→ltb}
use Rattle.laws.specs.Bounded.{some}
use Rattle.laws.proofs.Booleans.{T_true, T-not-false, true_or-not, and_i, and_e, cases, true_is}
use Rattle.laws.proofs.Bounded.{some_at, some_of}
use Rattle.laws.proofs.Sums.{sum_le, sum_lt, sum_term, sum_zero}
use Rattle.graph.specs.Delay.{absent, present}
use Rattle.graph.specs.Graph.{Graph}
use Rattle.graph.specs.Count.{bit, fan_in, fan_out, arcs}
use Rattle.graph.proofs.Presence.{absent_or, not-present, bit_absent, bit_mono, bit-present}
use Rattle.graph.proofs.Longest.{Within}
use Rattle.timing.specs.Sound.{Sound}
use Rattle.timing.proofs.Checks.{sound_within}
use Rattle.reduction.specs.Outcome.{is_inner}
use Rattle.reduction.specs.Deletion.{undriven, deletion_round, deletion_rounds, deleted, deletes}
use Rattle.reduction.proofs.Better.{Inner, Same, inner_of, none_counted, same_on, same_self}
use Rattle.reduction.proofs.Prune.{thinned_keeps, undriven_idle}

module _ (m n N : ℕ) where
  pub undriven_parts : {g : Graph} → Within N g → (u : ℕ) → T (undriven m n N g u) → Inner m n N u × ((x : ℕ) → g x u ≡ absent)
  unfolding fan_in
  undriven_parts {g} w u t =
      let p = and_e (is_inner m n N u) (eqb (fan_in N g u) 0) t in
      (inner_of m n N u p.0, none_counted N (λ x. g x u) (λ x h. (w.in_range x u h).0) (eqb→eq (fan_in N g u) 0 p.1))

  -- ---- the delays stay

  module _ (counts : ℕ → ℕ → Bool) where
    round_keeps : {g : Graph} → Sound m n N g → Same counts m n N g (deletion_round m n N g)
    unfolding deletion_round
    round_keeps {g} s = thinned_keeps counts s (λ u _. not (undriven m n N g u)) (λ u v t. not_T (undriven m n N g u) (λ h.
        let p = undriven_parts (sound_within s) u h in
        undriven_idle counts s u v (omega (arith, p.0.0)) p.1 t))

    rounds_keep : (c : ℕ) {g : Graph} → Sound m n N g → Same counts m n N g (deletion_rounds m n N c g)
    unfolding deletion_rounds
    rounds_keep zero s = same_self s
    rounds_keep (suc c) s = let k = rounds_keep c s in same_on k (round_keeps k.sound)

    pub deleted_keeps : {g : Graph} → Sound m n N g → Same counts m n N g (deleted m n N g)
    deleted_keeps s = rounds_keep N s

  -- ---- what goes stays away

  pub round_absent : (g : Graph) (u t : ℕ) → g u t ≡ absent → deletion_round m n N g u t ≡ absent
  unfolding deletion_round
  round_absent g u t e = cases (not (undriven m n N g u)) (λ c. rw c e) (λ c. rw c refl)

  pub rounds_absent : (g : Graph) (c u t : ℕ) → g u t ≡ absent → deletion_rounds m n N c g u t ≡ absent
  unfolding deletion_rounds
  rounds_absent g zero u t e = e
  rounds_absent g (suc c) u t e = round_absent (deletion_rounds m n N c g) u t (rounds_absent g c u t e)

  rounds_less : (g : Graph) (c u t : ℕ) → bit (deletion_rounds m n N c g u t) ≤ bit (g u t)
  rounds_less g c u t = bit_mono (deletion_rounds m n N c g u t) (g u t) (λ h. go h (absent_or (g u t)))
    where
      go : T (present (deletion_rounds m n N c g u t)) → (g u t ≡ absent) ⊎ T (present (g u t)) → T (present (g u t))
      go h (inl e) = absurd (not-present (deletion_rounds m n N c g u t) (rounds_absent g c u t e) h)
      go h (inr p) = p

  -- ---- what stays

  -- a vertex that is not inner keeps its arcs
  pub outside_stays : (g : Graph) (c u t : ℕ) → T (not (is_inner m n N u)) → deletion_rounds m n N c g u t ≡ g u t
  unfolding deletion_rounds deletion_round
  outside_stays g zero u t h = refl
  outside_stays g (suc c) u t h = rw (T-not-false {b = is_inner m n N u} h) (outside_stays g c u t h)

  -- ---- when an arc goes

  -- an inner vertex with an arc out has no arc in
  abbrev pub has_undriven : Graph → Bool
  has_undriven g = some N (λ u. undriven m n N g u && ltb 0 (fan_out N g u))

  module _ (g : Graph) where
    -- its arcs go in the first round
    first_round : (u : ℕ) → T (undriven m n N g u) → (c t : ℕ) → deletion_rounds m n N (suc c) g u t ≡ absent
    unfolding deletion_rounds deletion_round
    first_round u h zero t = rw (T_true {b = undriven m n N g u} h) refl
    first_round u h (suc c) t = round_absent (deletion_rounds m n N (suc c) g) u t (first_round u h c t)

    takes : T (has_undriven g) → arcs N (deleted m n N g) < arcs N g
    unfolding arcs fan_out
    takes h =
        let a = some_at N (λ u. undriven m n N g u && ltb 0 (fan_out N g u)) h in
        let b = and_e (undriven m n N g a.0) (ltb 0 (fan_out N g a.0)) a.2 in
        sum_lt N (fan_out N (deleted m n N g)) (fan_out N g) a.0 a.1 (λ u _. sum_le N (λ t. bit (deleted m n N g u t)) (λ t. bit (g u t)) (λ t _. rounds_less g N u t))
        (omega (arith, sum_zero N (λ t. bit (deleted m n N g a.0 t)) (λ t _. bit_absent (gone N a.1 a.0 b.0 t)), ltb→lt 0 (fan_out N g a.0) b.1))
      where
        gone : (c : ℕ) {x : ℕ} → x < c → (u : ℕ) → T (undriven m n N g u) → (t : ℕ) → deletion_rounds m n N c g u t ≡ absent
        gone zero l u h t = absurd (omega arith)
        gone (suc c) l u h t = first_round u h c t

    module _ (w : Within N g) (none : has_undriven g ≡ false) where
      round_idle : deletion_round m n N g ≡ g
      unfolding deletion_round fan_out
      round_idle = fun_ext (λ u. fun_ext (λ t. go u t (true_or-not (undriven m n N g u)) (absent_or (g u t))))
        where
          go : (u t : ℕ) → T (undriven m n N g u) ⊎ T (not (undriven m n N g u)) → (g u t ≡ absent) ⊎ T (present (g u t)) → cond (not (undriven m n N g u)) (g u t) absent ≡ g u t
          go u t (inr c) _ = rw (T_true {b = not (undriven m n N g u)} c) refl
          go u t (inl c) (inl e) = rw (T_true {b = undriven m n N g u} c) (sym e)
          go u t (inl c) (inr p) = absurd (subst T none (some_of N (λ u. undriven m n N g u && ltb 0 (fan_out N g u)) u (w.in_range u t p).0
              (and_i (undriven m n N g u) (ltb 0 (fan_out N g u)) c (lt→ltb 0 (fan_out N g u) (omega (arith, bit-present (g u t) p, sum_term N (λ t. bit (g u t)) t (w.in_range u t p).1))))))

      rounds_idle : (c : ℕ) → deletion_rounds m n N c g ≡ g
      unfolding deletion_rounds
      rounds_idle zero = refl
      rounds_idle (suc c) = ap (deletion_round m n N) (rounds_idle c) ∙ round_idle

    pub deletes_first : Within N g → deletes m n N g ≡ has_undriven g
    deletes_first w = cases (has_undriven g)
        (λ e. lt-ltb _ _ (takes (true_is e)) ∙ sym e)
        (λ e. le-ltb _ _ (omega (arith, ap (arcs N) (rounds_idle w e N))) ∙ sym e)
