-- Exactly the arcs of driven vertices stay, and N rounds are enough: a vertex that is not driven has lost its arcs after as many rounds as paths lead to it from
-- different vertices, and one more.
use mathlib.Core.Path.{◌≡◌, refl, sym, ap, ◌∙◌, subst}
use mathlib.Core.Logic.{◌⊎◌, inl, inr}
use mathlib.Core.Bool.{Bool, not, cond, ◌&&◌}
use mathlib.Core.List.{List}
use Prim.Native.Nat.{ℕ, zero, suc, ◌≤◌, ◌<◌}
use native.Mathlib.Omega.{arith}
use lib.Dec.{T, T_not, not_T, eqb, eqb→eq}
use lib.IntN.{ℤ}
use Rattle.laws.specs.Bounded.{some}
use Rattle.laws.proofs.Booleans.{T_true, T-not-false, true_or-not, and_i, and_e, or_l, or_r, or_cases, split, eq→eqb}
use Rattle.laws.proofs.Bounded.{some_at, some_of}
use Rattle.laws.proofs.Sums.{sum_term, sum_zero}
use Rattle.graph.specs.Delay.{Delay, absent, present, ◌⊕◌, ◌⊑◌}
use Rattle.graph.specs.Graph.{Graph, Longest, longest}
use Rattle.graph.specs.Count.{bit, fan_in}
use Rattle.graph.proofs.Presence.{absent_or, bit_absent, bit-present, present_l, present_r, present-⊕, present-⊑}
use Rattle.graph.proofs.Closure.{arc_⊑, extend, last_arc}
use Rattle.graph.proofs.Rank.{Ranked, acyclic_ranked}
use Rattle.timing.specs.Table.{graph_of}
use Rattle.timing.specs.Checks.{passes}
use Rattle.timing.specs.Sound.{Sound}
use Rattle.timing.proofs.Checks.{sound_within, passed}
use Rattle.reduction.specs.Outcome.{is_inner}
use Rattle.reduction.specs.Prune.{thinned}
use Rattle.reduction.specs.Deletion.{undriven, deletion_round, deletion_rounds, deleted}
use Rattle.reduction.specs.DeletionMeaning.{driven, DeletionMeaning}
use Rattle.reduction.proofs.Better.{longest_of}
use Rattle.reduction.proofs.Deletion.{round_absent, rounds_absent}

module _ {m n N : ℕ} {g : Graph} (s : Sound m n N g) where
  l : Longest g (longest g N)
  l = longest_of s

  -- a path leads to u from a vertex that is not inner
  abbrev led : ℕ → ℕ → Bool
  led u v = not (is_inner m n N v) && present (longest g N v u)

  -- ---- driven vertices

  pub driven_outside : (u : ℕ) → T (not (is_inner m n N u)) → T (driven m n N g u)
  driven_outside u t = or_l (not (is_inner m n N u)) (some N (led u)) t

  driven_by : (v u : ℕ) → v < N → T (not (is_inner m n N v)) → T (present (longest g N v u)) → T (driven m n N g u)
  driven_by v u k h p = or_r (not (is_inner m n N u)) (some N (led u)) (some_of N (led u) v k (and_i (not (is_inner m n N v)) (present (longest g N v u)) h p))

  pub driven_from : (u : ℕ) → T (driven m n N g u) → T (not (is_inner m n N u)) ⊎ ((v : ℕ) × (v < N) × T (not (is_inner m n N v)) × T (present (longest g N v u)))
  driven_from u d = split (or_cases (not (is_inner m n N u)) (some N (led u)) d) inl (λ h.
      let v = some_at N (led u) h in
      let p = and_e (not (is_inner m n N v.0)) (present (longest g N v.0 u)) v.2 in
      inr (v.0, v.1, p.0, p.1))

  pub driven_onward : (x u : ℕ) → T (driven m n N g x) → T (present (g x u)) → T (driven m n N g u)
  driven_onward x u d t = split (driven_from x d)
      (λ h. driven_by x u (s.legal x u t).from_below h (present-⊑ (arc_⊑ l x u) t))
      (λ v. driven_by v.0 u v.1 v.2 (present-⊑ (extend l v.0 x u) (present-⊕ (longest g N v.0 x) (g x u) v.3 t)))

  -- an inner one has an arc in from another
  driver_of : (u : ℕ) → T (is_inner m n N u) → T (driven m n N g u) → (x : ℕ) × T (driven m n N g x) × T (present (g x u))
  driver_of u inner d = split (driven_from u d) (λ h. absurd (T_not (is_inner m n N u) h inner)) (λ v. last v.0 v.1 v.2 v.3 (last_arc l v.0 u))
    where
      last : (v : ℕ) → v < N → T (not (is_inner m n N v)) → T (present (longest g N v u)) → (longest g N v u ⊑ g v u) ⊎ ((x : ℕ) × (longest g N v u ⊑ longest g N v x ⊕ g x u))
          → (x : ℕ) × T (driven m n N g x) × T (present (g x u))
      last v k h p (inl q) = (v, driven_outside v h, present-⊑ q p)
      last v k h p (inr (x, q)) = let b = present-⊑ q p in (x, driven_by v x k h (present_l (longest g N v x) (g x u) b), present_r (longest g N v x) (g x u) b)

  -- ---- their arcs stay

  kept : (c u t : ℕ) → T (driven m n N g u) → deletion_rounds m n N c g u t ≡ g u t
  unfolding deletion_rounds deletion_round fan_in
  kept zero u t d = refl
  kept (suc c) u t d = rw (T_true {b = not (undriven m n N (deletion_rounds m n N c g) u)} (not_T (undriven m n N (deletion_rounds m n N c g) u) (still (deletion_rounds m n N c g) u d (kept c)))) (kept c u t d)
    where
      -- its driver's arc to u is there still
      still : (h : Graph) (u : ℕ) → T (driven m n N g u) → ((u t : ℕ) → T (driven m n N g u) → h u t ≡ g u t) → T (undriven m n N h u) → ⊥
      still h u d same q =
          let p = and_e (is_inner m n N u) (eqb (fan_in N h u) 0) q in
          let x = driver_of u p.0 d in
          let there : T (present (h x.0 u)) = subst (λ (y : Delay). T (present y)) (sym (same x.0 u x.1)) x.2 in
          omega (arith, eqb→eq (fan_in N h u) 0 p.1, bit-present (h x.0 u) there, sum_term N (λ y. bit (h y u)) x.0 (s.legal x.0 u x.2).from_below)

  -- ---- the others' go

  ranks : (r : Ranked g) × ((v : ℕ) → r.rank v ≤ N)
  ranks = acyclic_ranked N (sound_within s) s.acyclic

  abbrev r : Ranked g
  r = ranks.0

  gone : (c u t : ℕ) → T (not (driven m n N g u)) → r.rank u < c → deletion_rounds m n N c g u t ≡ absent
  unfolding deletion_rounds deletion_round fan_in
  gone zero u t d k = absurd (omega arith)
  gone (suc c) u t d k = rw (T_true {b = undriven m n N (deletion_rounds m n N c g) u} (dry (deletion_rounds m n N c g) u d (rounds_absent m n N g c) (λ x q p. gone c x u q (omega (arith, r.rise x u p))))) refl
    where
      -- what led to it has lost its arcs before
      dry : (h : Graph) (u : ℕ) → T (not (driven m n N g u)) → ((x t : ℕ) → g x t ≡ absent → h x t ≡ absent) → ((x : ℕ) → T (not (driven m n N g x)) → T (present (g x u)) → h x u ≡ absent)
          → T (undriven m n N h u)
      dry h u d less before = and_i (is_inner m n N u) (eqb (fan_in N h u) 0) (inner (true_or-not (is_inner m n N u)))
          (eq→eqb (fan_in N h u) 0 (sum_zero N (λ x. bit (h x u)) (λ x _. bit_absent (into x (absent_or (g x u))))))
        where
          inner : T (is_inner m n N u) ⊎ T (not (is_inner m n N u)) → T (is_inner m n N u)
          inner (inl t) = t
          inner (inr t) = absurd (T_not (driven m n N g u) d (driven_outside u t))

          into : (x : ℕ) → (g x u ≡ absent) ⊎ T (present (g x u)) → h x u ≡ absent
          into x (inl e) = less x u e
          into x (inr p) = before x (not_T (driven m n N g x) (λ y. T_not (driven m n N g u) d (driven_onward x u y p))) p

  lost : (u t : ℕ) → T (not (driven m n N g u)) → deleted m n N g u t ≡ absent
  lost u t d = go (absent_or (g u t))
    where
      go : (g u t ≡ absent) ⊎ T (present (g u t)) → deleted m n N g u t ≡ absent
      go (inl e) = rounds_absent m n N g N u t e
      go (inr p) = gone N u t d (omega (arith, r.rise u t p, ranks.1 t))

  pub deletion_meaning : DeletionMeaning m n N g
  unfolding deletion_rounds
  deletion_meaning = record { stays = λ u t. stays u t (true_or-not (driven m n N g u)); settled = λ u t. settled u t (true_or-not (driven m n N g u)) }
    where
      stays : (u t : ℕ) → T (driven m n N g u) ⊎ T (not (driven m n N g u)) → deleted m n N g u t ≡ thinned (λ u _. driven m n N g u) g u t
      stays u t (inl d) = kept N u t d ∙ sym (ap (λ (b : Bool). cond b (g u t) absent) (T_true {b = driven m n N g u} d))
      stays u t (inr d) = lost u t d ∙ sym (ap (λ (b : Bool). cond b (g u t) absent) (T-not-false {b = driven m n N g u} d))

      settled : (u t : ℕ) → T (driven m n N g u) ⊎ T (not (driven m n N g u)) → deletion_round m n N (deleted m n N g) u t ≡ deleted m n N g u t
      settled u t (inl d) = kept (suc N) u t d ∙ sym (kept N u t d)
      settled u t (inr d) = round_absent m n N (deleted m n N g) u t (lost u t d) ∙ sym (lost u t d)

-- of every table that passes its checks
pub table_deletion : (m n N : ℕ) (t : List ℤ) → T (passes m n N t) → DeletionMeaning m n N (graph_of N t)
table_deletion m n N t good = deletion_meaning (passed m n N t good).sound
