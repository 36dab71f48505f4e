-- When the deletion after a share of inputs takes an arc, seen before the share; and the verdict by it.
use mathlib.Core.Path.{◌≡◌, refl, sym, ap, ◌∙◌, subst, fun_ext}
use mathlib.Core.Logic.{◌≢◌}
use mathlib.Core.Bool.{Bool, true, not, ◌&&◌, ◌||◌}
use Prim.Native.Nat.{ℕ, ◌<◌}
use native.Mathlib.Decide.{ℕ_discrete}
use native.Mathlib.Omega.{arith}
use lib.Dec.{T, not_T, eqb, eqb→eq, ltb, ltb→lt, lt→ltb}
use lib.IntN.{ℤ}
use Rattle.laws.specs.Bounded.{every}
use Rattle.laws.proofs.Booleans.{and_i, and_e, or_l, or_r, or_cases, split, eq→eqb, neqb→ne, cases, true_is}
use Rattle.laws.proofs.Truth.{same_truth}
use Rattle.laws.proofs.Bounded.{some_at, some_of, every_at, every_all}
use Rattle.laws.proofs.Sums.{sum_eq, sum_zero}
use Rattle.graph.specs.Delay.{absent, present}
use Rattle.graph.specs.Graph.{Graph}
use Rattle.graph.specs.Count.{bit, fan_in, fan_out}
use Rattle.graph.proofs.Longest.{Within}
use Rattle.graph.proofs.Presence.{not-present, at_present, absent_unless, bit_absent}
use Rattle.timing.specs.declared.Refusal.TheVariants.{WrongVertex, NumberTaken}
use Rattle.timing.specs.Refusal.{Verdict, require, ◌then◌}
use Rattle.timing.specs.Delays.{matrix}
use Rattle.timing.specs.Sound.{Sound}
use Rattle.timing.proofs.Checks.{sound_within}
use Rattle.reduction.specs.Outcome.{is_input, is_inner, unused}
use Rattle.reduction.specs.Common.{common_difference}
use Rattle.reduction.specs.Deletion.{undriven}
use Rattle.reduction.specs.DeletionMeaning.{hangs_on, leaves_undriven, ShareDeletion, saved_before}
use Rattle.reduction.specs.ShareInputs.{inputs_shared, enough_out, two_out, where_it_pays, share_inputs_verdict}
use Rattle.reduction.proofs.Accepted.{inputs_asked}
use Rattle.reduction.proofs.Better.{Inner, inner_of, inner_is, unused_in, unused_out}
use Rattle.reduction.proofs.Deletion.{undriven_parts, has_undriven, deletes_first}
use Rattle.reduction.proofs.ShareInputs.{Shared, inputs_shared_by, shared_within}

module _ (m n N : ℕ) (g : Graph) (b u : ℕ) where
  pub hangs_by : Inner m n N u → 0 < fan_out N g u → ((x : ℕ) → x < N → x ≢ b → g x u ≡ absent) → T (hangs_on m n N g b u)
  hangs_by inner out none =
      and_i (is_inner m n N u && ltb 0 (fan_out N g u)) (every N (λ x. eqb x b || not (present (g x u))))
      (and_i (is_inner m n N u) (ltb 0 (fan_out N g u)) (inner_is m n N u inner) (lt→ltb 0 (fan_out N g u) out))
      (every_all N (λ x. eqb x b || not (present (g x u))) (λ x l. go x l (ℕ_discrete x b)))
    where
      go : (x : ℕ) → x < N → Dec (x ≡ b) → T (eqb x b || not (present (g x u)))
      go x l (yes z) = or_l (eqb x b) (not (present (g x u))) (eq→eqb x b z)
      go x l (no z) = or_r (eqb x b) (not (present (g x u))) (not_T (present (g x u)) (not-present (g x u) (none x l z)))

  pub hangs_parts : T (hangs_on m n N g b u) → Inner m n N u × (0 < fan_out N g u) × ((x : ℕ) → x < N → x ≢ b → g x u ≡ absent)
  hangs_parts t =
      let p = and_e (is_inner m n N u && ltb 0 (fan_out N g u)) (every N (λ x. eqb x b || not (present (g x u)))) t in
      let q = and_e (is_inner m n N u) (ltb 0 (fan_out N g u)) p.0 in (
        inner_of m n N u q.0,
        ltb→lt 0 (fan_out N g u) q.1,
        λ x l z. split (or_cases (eqb x b) (not (present (g x u))) (every_at N (λ x. eqb x b || not (present (g x u))) p.1 x l))
            (λ e. absurd (z (eqb→eq x b e))) (absent_unless (g x u)),
      )

module _ {m n N : ℕ} (a b k : ℕ) {g : Graph} (s : Sound m n N g) (ha : a < m) (hb : b < m) (ab : a ≢ b) (hk : Inner m n N k) (free : T (unused N g k)) where
  out : (v : ℕ) → g k v ≡ absent
  out = unused_out (sound_within s) k free

  in' : (u : ℕ) → g u k ≡ absent
  in' = unused_in (sound_within s) k free

  module _ (e : ℤ) where
    abbrev g' : Graph
    g' = inputs_shared a b k e g

    c : Shared a b k e g (inputs_shared a b k e g)
    c = inputs_shared_by a b k e s ha hb ab hk free

    w' : Within N (inputs_shared a b k e g)
    w' = shared_within c (sound_within s) (omega (arith, s.room)) (omega (arith, s.room)) hk.1

    -- an inner vertex other than k keeps its arcs out
    out_stays : (u : ℕ) → Inner m n N u → u ≢ k → fan_out N (inputs_shared a b k e g) u ≡ fan_out N g u
    unfolding fan_out
    out_stays u hu n = sum_eq N (λ t. bit (inputs_shared a b k e g u t)) (λ t. bit (g u t)) (λ t _. ap bit (go t (ℕ_discrete t k)))
      where
        ua : u ≢ a
        ua z = omega arith

        ub : u ≢ b
        ub z = omega arith

        go : (t : ℕ) → Dec (t ≡ k) → inputs_shared a b k e g u t ≡ g u t
        go t (yes z) = rw (z, in' u) (c.else_k u ua ub)
        go t (no z) = c.rest u t ua ub n z

    -- and loses its arc from b alone
    in_stays : (u : ℕ) → u ≢ k → ((x : ℕ) → inputs_shared a b k e g x u ≡ absent) → (x : ℕ) → x ≢ b → g x u ≡ absent
    in_stays u n none x xb = go (ℕ_discrete x a) (ℕ_discrete x k)
      where
        go : Dec (x ≡ a) → Dec (x ≡ k) → g x u ≡ absent
        go (yes z) _ = rw z (sym (c.hub u) ∙ none k)
        go (no _) (yes z) = rw z (out u)
        go (no p) (no q) = sym (c.rest x u p xb q n) ∙ none x

    in_goes : (u : ℕ) → u ≢ k → ((x : ℕ) → x < N → x ≢ b → g x u ≡ absent) → (x : ℕ) → x < N → inputs_shared a b k e g x u ≡ absent
    in_goes u n none x l = go (ℕ_discrete x a) (ℕ_discrete x b) (ℕ_discrete x k)
      where
        go : Dec (x ≡ a) → Dec (x ≡ b) → Dec (x ≡ k) → inputs_shared a b k e g x u ≡ absent
        go (yes z) _ _ = rw z (c.a_out u n)
        go (no _) (yes z) _ = rw z (c.b_out u n)
        go (no _) (no _) (yes z) = rw z (c.hub u ∙ none a (omega (arith, s.room)) ab)
        go (no p) (no q) (no r) = c.rest x u p q r n ∙ none x l q

    there : T (has_undriven m n N (inputs_shared a b k e g)) → T (leaves_undriven m n N g b)
    unfolding leaves_undriven
    there t =
        let u = some_at N (λ u. undriven m n N g' u && ltb 0 (fan_out N g' u)) t in
        let p = and_e (undriven m n N g' u.0) (ltb 0 (fan_out N g' u.0)) u.2 in
        let q = undriven_parts m n N w' u.0 p.0 in
        let uk : u.0 ≢ k = λ z. not-present (g' a k) (subst (λ (y : ℕ). g' a y ≡ absent) z (q.1 a)) (at_present c.a_k) in
        some_of N (hangs_on m n N g b) u.0 u.1 (hangs_by m n N g b u.0 q.0 (omega (arith, ltb→lt 0 (fan_out N g' u.0) p.1, out_stays u.0 q.0 uk)) (λ x _. in_stays u.0 uk q.1 x))

    back : T (leaves_undriven m n N g b) → T (has_undriven m n N (inputs_shared a b k e g))
    unfolding leaves_undriven fan_in fan_out
    back t =
        let u = some_at N (hangs_on m n N g b) t in
        let h = hangs_parts m n N g b u.0 u.2 in
        let uk : u.0 ≢ k = λ z. omega (arith, h.1, ap (fan_out N g) z, sum_zero N (λ t. bit (g k t)) (λ t _. bit_absent (out t))) in
        some_of N (λ u. undriven m n N g' u && ltb 0 (fan_out N g' u)) u.0 u.1
        (and_i (undriven m n N g' u.0) (ltb 0 (fan_out N g' u.0))
        (and_i (is_inner m n N u.0) (eqb (fan_in N g' u.0) 0) (inner_is m n N u.0 h.0)
        (eq→eqb (fan_in N g' u.0) 0 (sum_zero N (λ x. bit (g' x u.0)) (λ x l. bit_absent (in_goes u.0 uk h.2 x l)))))
        (lt→ltb 0 (fan_out N g' u.0) (omega (arith, h.1, out_stays u.0 h.0 uk))))

    pub share_deletion : ShareDeletion m n N a b k e g
    share_deletion = deletes_first m n N g' w' ∙ same_truth (has_undriven m n N g') (leaves_undriven m n N g b) there back

  -- so that the verdict asks nothing of k once it is free
  pub inputs_asked_before : share_inputs_verdict m n N a b k g ≡ (common_difference n (matrix m N g a) (matrix m N g b) then saved_before m n N g b)
  inputs_asked_before =
      inputs_asked m n N a b k g ha hb ab hk free
      ∙ ap (λ (f : ℤ → Verdict ℤ). common_difference n (matrix m N g a) (matrix m N g b) then f)
      (fun_ext (λ e. ap (λ (c : Bool). where_it_pays (enough_out N g b || (two_out N g b && c)) e) (share_deletion e)))

-- the verdict, seen so
abbrev pub verdict_before : ℕ → ℕ → ℕ → ℕ → ℕ → ℕ → Graph → Verdict ℤ
verdict_before m n N a b k g =
    require (is_input m a && is_input m b && not (eqb a b) && ltb k N) WrongVertex
    (require (is_inner m n N k && unused N g k) NumberTaken
    (common_difference n (matrix m N g a) (matrix m N g b) then saved_before m n N g b))

-- it is that, whatever the numbers
pub share_inputs_before : {m n N : ℕ} (a b k : ℕ) {g : Graph} → Sound m n N g → share_inputs_verdict m n N a b k g ≡ verdict_before m n N a b k g
unfolding share_inputs_verdict
share_inputs_before {m} {n} {N} a b k {g} s = cases vertices (λ e. cases number (λ f. right e f) (λ f. rw (e, f) refl)) (λ e. rw e refl)
  where
    vertices : Bool
    vertices = is_input m a && is_input m b && not (eqb a b) && ltb k N

    number : Bool
    number = is_inner m n N k && unused N g k

    right : (is_input m a && is_input m b && not (eqb a b) && ltb k N) ≡ true → (is_inner m n N k && unused N g k) ≡ true → share_inputs_verdict m n N a b k g ≡ verdict_before m n N a b k g
    right e f =
        let p = and_e (is_input m a && is_input m b) (not (eqb a b)) (and_e (is_input m a && is_input m b && not (eqb a b)) (ltb k N) (true_is e)).0 in
        let i = and_e (is_input m a) (is_input m b) p.0 in
        let q = and_e (is_inner m n N k) (unused N g k) (true_is f) in
        inputs_asked_before a b k s (ltb→lt a m i.0) (ltb→lt b m i.1) (neqb→ne a b p.1) (inner_of m n N k q.0) q.1 ∙ sym (rw (e, f) refl)
