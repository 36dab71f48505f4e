-- Sharing inputs: first b's row becomes a's row and e, which is what b's arrivals are at every output; then the new vertex is brought in as a shrink
-- read backwards.
use mathlib.Core.Path.{◌≡◌, refl, sym, ap, ◌∙◌, subst}
use mathlib.Core.Logic.{◌≢◌, ◌⊎◌, inl, inr}
use mathlib.Core.Bool.{Bool, not, true, false, cond, ◌&&◌, ◌||◌}
use Prim.Native.Nat.{ℕ, suc, ◌+◌, ◌-◌, ◌≤◌, ◌<◌}
use native.Mathlib.Decide.{ℕ_discrete}
use native.Mathlib.Omega.{arith}
use lib.Dec.{T, eqb→eq, leb→le, ltb→lt}
use lib.IntN.{ℤ}
use Rattle.laws.proofs.Booleans.{eqb_same, eqb_other, and_e, true_is, cond_elim}
use Rattle.laws.proofs.Update.{update, update_same, update_other, update_elim}
use Rattle.laws.proofs.Sums.{sum_le, sum_eq, sum_but_three, sum_single}
use Rattle.graph.specs.Delay.{Delay, absent, at, present, immediate, ◌⋓◌, ◌⊕◌, ◌⊑◌}
use Rattle.graph.specs.Graph.{Graph, Longest, longest}
use Rattle.graph.specs.Count.{bit, fan_out, arcs}
use Rattle.graph.proofs.Delay.{absent_⊑, ⊑_trans, ⊑-eq, ⊑-absent, immediate-⊕, ⊕-assoc, ⊕-comm, ⊕-left, ⋓-absent, none_r, none_l}
use Rattle.graph.proofs.Presence.{present_r, not-present, bit_le, bit_absent, bit_same}
use Rattle.graph.proofs.Closure.{walk_other, arc_⊑, extend, last_arc}
use Rattle.graph.proofs.Rank.{Ranked, ranked_acyclic}
use Rattle.graph.proofs.Arrivals.{Arrivals, arrivals-longest, walk-arrivals}
use Rattle.timing.specs.Limits.{delay_limit, fits}
use Rattle.timing.specs.Refusal.{accepted}
use Rattle.timing.specs.Sound.{LegalArc, Sound}
use Rattle.timing.proofs.Checks.{sound_within, sound_inputs}
use Rattle.reduction.specs.Outcome.{is_inner, every_pair, unused}
use Rattle.reduction.proofs.Better.{Output, Inner, Same, Better, unused_in, unused_out, rank_of, longest_of, input_output, input_inner, output_inner, same, same_on}
use Rattle.graph.proofs.Longest.{Within, longest_is}
use Rattle.timing.specs.Delays.{matrix}
use Rattle.reduction.specs.Deletion.{deleted, deletes}
use Rattle.reduction.specs.ShareInputs.{inputs_shared, enough_out, two_out, share_inputs_verdict, inputs_reduced}
use Rattle.reduction.proofs.Accepted.{common_accepted, share_inputs_accepted}
use Rattle.reduction.proofs.Deletion.{deleted_keeps, outside_stays}
use Rattle.reduction.proofs.Shrink.{Shrunk}
use Rattle.reduction.proofs.Unshrink.{unshrunk_ranked, unshrunk_same}

-- b's row is a's row and e
abbrev pub lean : ℕ → ℕ → ℤ → Graph → Graph
lean a b e g = update g b (λ v. at e ⊕ g a v)

module _ (a b : ℕ) (e : ℤ) {g : Graph} (ab : a ≢ b) (nb : (u : ℕ) → g u b ≡ absent) (r : Ranked g) where
  lean_row : (v : ℕ) → lean a b e g b v ≡ at e ⊕ g a v
  lean_row v = ap (λ (f : ℕ → Delay). f v) (update_same g b (λ v. at e ⊕ g a v))

  lean_other : (u v : ℕ) → u ≢ b → lean a b e g u v ≡ g u v
  lean_other u v n = ap (λ (f : ℕ → Delay). f v) (update_other g b (λ v. at e ⊕ g a v) u n)

  lean_in : (u : ℕ) → Dec (u ≡ b) → lean a b e g u b ≡ absent
  lean_in u (yes p) = rw (p, lean_row b, nb a)
  lean_in u (no n) = lean_other u b n ∙ nb u

  pub lean_within : {N : ℕ} → b < N → Within N g → Within N (lean a b e g)
  lean_within {N} bN w = record { in_range = λ u v t. go u v t (ℕ_discrete u b) }
    where
      go : (u v : ℕ) → T (present (lean a b e g u v)) → Dec (u ≡ b) → (u < N) × (v < N)
      go u v t (yes p) = (rw p bN, (w.in_range a v (present_r (at e) (g a v) (rw (p, lean_row v) at t))).1)
      go u v t (no n) = w.in_range u v (rw (lean_other u v n) at t)

  pub lean_ranked : Ranked (lean a b e g)
  lean_ranked = record { rank = update (λ (v : ℕ). suc (r.rank v)) b 0; rise = λ u v t. go u v t (ℕ_discrete u b) (ℕ_discrete v b) }
    where
      q : ℕ → ℕ
      q = update (λ (v : ℕ). suc (r.rank v)) b 0

      go : (u v : ℕ) → T (present (lean a b e g u v)) → Dec (u ≡ b) → Dec (v ≡ b) → q u < q v
      go u v t d (yes p) = absurd (not-present (lean a b e g u v) (rw p (lean_in u d)) t)
      go u v t (yes p) (no n) = rw (p, update_same (λ (v : ℕ). suc (r.rank v)) b 0, update_other (λ (v : ℕ). suc (r.rank v)) b 0 v n) (omega arith)
      go u v t (no m) (no n) = rw (update_other (λ (v : ℕ). suc (r.rank v)) b 0 u m, update_other (λ (v : ℕ). suc (r.rank v)) b 0 v n) (omega (arith, r.rise u v (rw (lean_other u v m) at t)))

  -- from another start b is not reached
  lean_arrivals : {i : ℕ} {F : ℕ → Delay} → Arrivals g i F → b ≢ i → Arrivals (lean a b e g) i F
  lean_arrivals {i} {F} c bi = record { start = c.start; flow = λ u v. flow' u v (ℕ_discrete u b); last = λ v n. last' v (c.last v n).0 (c.last v n).1 (ℕ_discrete (c.last v n).0 b) }
    where
      none : F b ≡ absent
      none = ⊑-absent (⊑_trans (c.last b bi).1 (none_r (F (c.last b bi).0) (nb (c.last b bi).0)))

      flow' : (u v : ℕ) → Dec (u ≡ b) → F u ⊕ lean a b e g u v ⊑ F v
      flow' u v (yes p) = none_l {x = F u} (lean a b e g u v) (rw p none)
      flow' u v (no n) = rw (lean_other u v n) (c.flow u v)

      last' : (v u : ℕ) → F v ⊑ F u ⊕ g u v → Dec (u ≡ b) → (u : ℕ) × (F v ⊑ F u ⊕ lean a b e g u v)
      last' v u h (yes p) = (u, ⊑_trans h (none_l {x = F u} (g u v) (rw p none)))
      last' v u h (no n) = (u, rw (lean_other u v n) h)

  module _ {L : Graph} (l : Longest g L) where
    B : ℕ → Delay
    B v = at e ⊕ L a v

    lean_arrivals_b : Arrivals (lean a b e g) b (update B b immediate)
    unfolding B
    lean_arrivals_b = record { start = update_same B b immediate; flow = flow'; last = λ v n. last' v n (last_arc l a v) }
      where
        flow' : (u v : ℕ) → update B b immediate u ⊕ lean a b e g u v ⊑ update B b immediate v
        flow' u v = update_elim B b immediate (λ (y : ℕ) (d : Delay). update B b immediate u ⊕ lean a b e g u y ⊑ d) (none_r (update B b immediate u) (lean_in u (ℕ_discrete u b))) v
            (λ _. update_elim B b immediate (λ (x : ℕ) (d : Delay). d ⊕ lean a b e g x v ⊑ at e ⊕ L a v)
            (rw (lean_row v, immediate-⊕ (at e ⊕ g a v)) (⊕-left (at e) (arc_⊑ l a v))) u
            (λ n. rw (lean_other u v n, ⊕-assoc (at e) (L a u) (g u v)) (⊕-left (at e) (extend l a u v))))

        last' : (v : ℕ) → v ≢ b → (L a v ⊑ g a v) ⊎ ((x : ℕ) × (L a v ⊑ L a x ⊕ g x v)) → (u : ℕ) × (update B b immediate v ⊑ update B b immediate u ⊕ lean a b e g u v)
        last' v n (inl h) = (b, rw (update_other B b immediate v n, update_same B b immediate, lean_row v, immediate-⊕ (at e ⊕ g a v)) (⊕-left (at e) h))
        last' v n (inr (x, h)) = go (ℕ_discrete x b)
          where
            go : Dec (x ≡ b) → (u : ℕ) × (update B b immediate v ⊑ update B b immediate u ⊕ lean a b e g u v)
            go (yes p) = (0, rw (update_other B b immediate v n) (⊑_trans (⊕-left (at e) (⊑_trans h (none_l (g x v) {z = absent} dead))) (absent_⊑ _)))
              where
                reach : (L a b ⊑ g a b) ⊎ ((y : ℕ) × (L a b ⊑ L a y ⊕ g y b)) → L a b ⊑ absent
                reach (inl k) = ⊑_trans k (⊑-eq (nb a))
                reach (inr (y, k)) = ⊑_trans k (none_r (L a y) (nb y))

                dead : L a x ≡ absent
                dead = rw p (⊑-absent (reach (last_arc l a b)))
            go (no m) = (x, rw (update_other B b immediate v n, update_other B b immediate x m, lean_other x v m, ⊕-assoc (at e) (L a x) (g x v)) (⊕-left (at e) h))

    -- from b, at each j at which b's delay is a's and e
    pub lean_same : {L' : Graph} → Longest (lean a b e g) L' → (i j : ℕ) → j ≢ i → (i ≡ b → L b j ≡ at e ⊕ L a j) → L' i j ≡ L i j
    unfolding B
    lean_same {L'} l' i j ne eq = go (ℕ_discrete i b)
      where
        go : Dec (i ≡ b) → L' i j ≡ L i j
        go (yes p) = rw p (arrivals-longest lean_arrivals_b lean_ranked l' j (λ x. ne (x ∙ sym p)) ∙ update_other B b immediate j (λ x. ne (x ∙ sym p)) ∙ sym (eq p))
        go (no n) = arrivals-longest (lean_arrivals (walk-arrivals (ranked_acyclic r) l i) (λ x. n (sym x))) lean_ranked l' j ne ∙ walk_other L i j (λ e. ne (sym e))

pub record Shared (a b k : ℕ) (e : ℤ) (g g' : Graph) : Type 0 where
  pub hub : (t : ℕ) → g' k t ≡ g a t
  pub a_k : g' a k ≡ immediate
  pub b_k : g' b k ≡ at e
  pub else_k : (u : ℕ) → u ≢ a → u ≢ b → g' u k ≡ absent
  pub a_out : (t : ℕ) → t ≢ k → g' a t ≡ absent
  pub b_out : (t : ℕ) → t ≢ k → g' b t ≡ absent
  pub rest : (u t : ℕ) → u ≢ a → u ≢ b → u ≢ k → t ≢ k → g' u t ≡ g u t

module _ {a b k : ℕ} {e : ℤ} {g g' : Graph} (s : Shared a b k e g g') (ab : a ≢ b) (ka : k ≢ a) (kb : k ≢ b) (out : (v : ℕ) → g k v ≡ absent) (in' : (u : ℕ) → g u k ≡ absent)
    (nb : (u : ℕ) → g u b ≡ absent) (r : Ranked g) where
  shared_shrunk : Shrunk k g' (lean a b e g)
  shared_shrunk = record {
    gone_out = λ v. lean_other a b e ab nb r k v kb ∙ out v;
    gone_in = λ u. in_k u (ℕ_discrete u b);
    rest = λ u v p q. sym (go u v p q (ℕ_discrete u a) (ℕ_discrete u b));
  }
    where
      in_k : (u : ℕ) → Dec (u ≡ b) → lean a b e g u k ≡ absent
      in_k u (yes p) = rw (p, lean_row a b e ab nb r k, in' a)
      in_k u (no n) = lean_other a b e ab nb r u k n ∙ in' u

      go : (u v : ℕ) → u ≢ k → v ≢ k → Dec (u ≡ a) → Dec (u ≡ b) → g' u v ⋓ (g' u k ⊕ g' k v) ≡ lean a b e g u v
      go u v p q d (yes x) = rw (x, lean_row a b e ab nb r v, s.b_k, s.hub v, s.b_out v q)
      go u v p q (yes x) (no n) = rw (x, lean_other a b e ab nb r a v ab, s.a_k, s.hub v, s.a_out v q, immediate-⊕ (g a v))
      go u v p q (no m) (no n) = rw (lean_other a b e ab nb r u v n, s.else_k u m n, s.rest u v m n p q) (⋓-absent (g u v))

  pub shared_ranked : {N : ℕ} → Within N g' → Ranked g'
  shared_ranked w = unshrunk_ranked shared_shrunk w (s.else_k k ka kb) (lean_ranked a b e ab nb r)

  pub shared_same : {N : ℕ} {L L' : Graph} → b < N → Within N g → Within N g' → Longest g L → Longest g' L' → (i j : ℕ) → j ≢ i → i ≢ k → j ≢ k → (i ≡ b → L b j ≡ at e ⊕ L a j) → L' i j ≡ L i j
  shared_same {N} bN w w' l l' i j ne ni nj eq =
      unshrunk_same shared_shrunk w' (s.else_k k ka kb) (lean_ranked a b e ab nb r) mid l' i j ne ni nj ∙ lean_same a b e ab nb r l mid i j ne eq
    where
      mid : Longest (lean a b e g) (longest (lean a b e g) N)
      mid = longest_is N (lean a b e g) (lean_within a b e ab nb r bN w) (ranked_acyclic (lean_ranked a b e ab nb r))

pub shared_count : {N a b k : ℕ} {e : ℤ} {g g' : Graph} → Shared a b k e g g' → a ≢ b → k ≢ a → k ≢ b → ((v : ℕ) → g k v ≡ absent) → ((u : ℕ) → g u k ≡ absent)
    → a < N → b < N → k < N → arcs N g' + fan_out N g b ≤ arcs N g + 2
unfolding arcs fan_out
shared_count {N} {a} {b} {k} {e} {g} {g'} s ab ka kb out in' aN bN kN =
    omega (arith, sum_but_three N (fan_out N g') (fan_out N g) a b k (fan_out N g b) 2 aN bN kN ab (λ x. ka (sym x)) (λ x. kb (sym x)) (λ u _ p q m. other u p q m) all)
  where
    other : (u : ℕ) → u ≢ a → u ≢ b → u ≢ k → fan_out N g' u ≤ fan_out N g u
    other u p q m = sum_le N (λ t. bit (g' u t)) (λ t. bit (g u t)) (λ t _. go t (ℕ_discrete t k))
      where
        go : (t : ℕ) → Dec (t ≡ k) → bit (g' u t) ≤ bit (g u t)
        go t (yes x) = omega (arith, bit_absent {x = g' u t} (rw x (s.else_k u p q)))
        go t (no n) = bit_same (s.rest u t p q m n)

    all : fan_out N g' a + (fan_out N g' b + fan_out N g' k) + fan_out N g b ≤ fan_out N g a + (fan_out N g b + fan_out N g k) + 2
    all = omega (
      arith,
      sum_single N (λ t. bit (g' a t)) k kN (λ t n. bit_absent (s.a_out t n)),
      sum_single N (λ t. bit (g' b t)) k kN (λ t n. bit_absent (s.b_out t n)),
      bit_le (g' a k),
      bit_le (g' b k),
      sum_eq N (λ t. bit (g' k t)) (λ t. bit (g a t)) (λ t _. ap bit (s.hub t)),
    )

-- what holds of a's arcs as k's, of the two new ones and of all old ones holds of each arc
shared_arcs : {a b k : ℕ} {e : ℤ} {g g' : Graph} → Shared a b k e g g' → (P : ℕ → ℕ → Delay → Type 0) → ((t : ℕ) → T (present (g a t)) → P k t (g a t)) → P a k immediate → P b k (at e)
    → ((u t : ℕ) → T (present (g u t)) → P u t (g u t)) → (u t : ℕ) → T (present (g' u t)) → P u t (g' u t)
shared_arcs {a} {b} {k} {e} {g} {g'} s P taken new_a new_b old u t = go (ℕ_discrete u k) (ℕ_discrete t k) (ℕ_discrete u a) (ℕ_discrete u b)
  where
    go : Dec (u ≡ k) → Dec (t ≡ k) → Dec (u ≡ a) → Dec (u ≡ b) → T (present (g' u t)) → P u t (g' u t)
    go (yes z) _ _ _ h = rw (z, s.hub t) (taken t (rw (z, s.hub t) at h))
    go (no _) (yes z) (yes q) _ h = rw (z, q, s.a_k) new_a
    go (no _) (yes z) (no _) (yes f) h = rw (z, f, s.b_k) new_b
    go (no _) (yes z) (no q) (no f) h = absurd (not-present (g' u t) (rw z (s.else_k u q f)) h)
    go (no _) (no z) (yes q) _ h = absurd (not-present (g' u t) (rw q (s.a_out t z)) h)
    go (no _) (no z) (no q) (yes f) h = absurd (not-present (g' u t) (rw f (s.b_out t z)) h)
    go (no p) (no z) (no q) (no f) h = rw (s.rest u t q f p z) (old u t (rw (s.rest u t q f p z) at h))

pub shared_within : {N a b k : ℕ} {e : ℤ} {g g' : Graph} → Shared a b k e g g' → Within N g → a < N → b < N → k < N → Within N g'
shared_within {N} {a} s w aN bN kN = record { in_range = shared_arcs s (λ u t _. (u < N) × (t < N)) (λ t h. (kN, (w.in_range a t h).1)) (aN, kN) (bN, kN) w.in_range }

-- ---- the step

inputs_shared_is : (a b k : ℕ) (e : ℤ) (g : Graph) → a ≢ k → b ≢ k → k ≢ a → k ≢ b → b ≢ a → ((u : ℕ) → g u k ≡ absent) → Shared a b k e g (inputs_shared a b k e g)
unfolding inputs_shared
inputs_shared_is a b k e g ak bk ka kb ba fresh = record {
  hub = λ t. simp (eqb_same, eqb_other);
  a_k = simp eqb_same;
  b_k = simp (eqb_same, eqb_other);
  else_k = λ u p q. other u p q (ℕ_discrete u k);
  a_out = λ t n. simp (eqb_same, eqb_other);
  b_out = λ t n. simp (eqb_same, eqb_other);
  rest = λ u t p q m n. simp eqb_other;
}
  where
    other : (u : ℕ) → u ≢ a → u ≢ b → Dec (u ≡ k) → inputs_shared a b k e g u k ≡ absent
    other u p q (yes x) = rw (x, eqb_other k a ka, eqb_other k b kb, eqb_same k) (fresh a)
    other u p q (no n) = rw (eqb_other u a p, eqb_other u b q, eqb_other u k n) (fresh u)

-- of two inputs and a free number
pub inputs_shared_by : {m n N : ℕ} (a b k : ℕ) {g : Graph} (e : ℤ) → Sound m n N g → a < m → b < m → a ≢ b → Inner m n N k → T (unused N g k) → Shared a b k e g (inputs_shared a b k e g)
inputs_shared_by a b k {g} e s ha hb ab hk free =
    let ak = input_inner s a k ha hk in
    let bk = input_inner s b k hb hk in
    inputs_shared_is a b k e g ak bk (λ z. ak (sym z)) (λ z. bk (sym z)) (λ z. ab (sym z)) (unused_in (sound_within s) k free)

-- From the facts that the verdict gives, where b's delays that count are a's and e.
module _ (counts : ℕ → ℕ → Bool) {m n N : ℕ} (a b k : ℕ) {g : Graph} (e : ℤ) (s : Sound m n N g) (ha : a < m) (hb : b < m) (ab : a ≢ b) (hk : Inner m n N k) (free : T (unused N g k))
    (dif : (j : ℕ) → j < n → T (counts b (m + j)) → longest g N b (m + j) ≡ longest g N a (m + j) ⊕ at e) (low : T (fits delay_limit (at e))) where
  out : (v : ℕ) → g k v ≡ absent
  out = unused_out (sound_within s) k free

  in' : (u : ℕ) → g u k ≡ absent
  in' = unused_in (sound_within s) k free

  ak : a ≢ k
  ak = input_inner s a k ha hk

  bk : b ≢ k
  bk = input_inner s b k hb hk

  ka : k ≢ a
  ka z = ak (sym z)

  kb : k ≢ b
  kb z = bk (sym z)

  a<N : a < N
  a<N = omega (arith, s.room)

  b<N : b < N
  b<N = omega (arith, s.room)

  c : Shared a b k e g (inputs_shared a b k e g)
  c = inputs_shared_by a b k e s ha hb ab hk free

  none : (u : ℕ) → g u b ≡ absent
  none u = sound_inputs s u b hb

  at_output : (j : ℕ) → Output m n j → T (counts b j) → longest g N b j ≡ longest g N a j ⊕ at e
  at_output j hj =
      let z : m + (j - m) ≡ j = omega arith in
      subst (λ (x : ℕ). T (counts b x) → longest g N b x ≡ longest g N a x ⊕ at e) z (dif (j - m) (omega arith))

  legal : (u t : ℕ) → T (present (inputs_shared a b k e g u t)) → LegalArc m N u t (inputs_shared a b k e g u t)
  legal = shared_arcs c (LegalArc m N)
      (λ t h. let x = s.legal a t h in record { from_below = hk.1; to_below = x.to_below; not_input = x.not_input; in_range = x.in_range })
      (record { from_below = a<N; to_below = hk.1; not_input = m≤k; in_range = tt }) (record { from_below = b<N; to_below = hk.1; not_input = m≤k; in_range = low }) s.legal
    where
      m≤k : m ≤ k
      m≤k = omega arith

  w' : Within N (inputs_shared a b k e g)
  w' = shared_within c (sound_within s) a<N b<N hk.1

  ranked : Ranked (inputs_shared a b k e g)
  ranked = shared_ranked c ab ka kb out in' none (rank_of s) w'

  pub inputs_shared_keeps : Same counts m n N g (inputs_shared a b k e g)
  inputs_shared_keeps = same s legal ranked (λ l' i j hi hj t.
      shared_same c ab ka kb out in' none (rank_of s) b<N (sound_within s) w' (longest_of s) l' i j (input_output s i j hi hj) (input_inner s i k hi hk) (output_inner s j k hj hk)
      (λ z. at_output j hj (subst (λ (x : ℕ). T (counts x j)) z t) ∙ ⊕-comm (longest g N a j) (at e)))

  -- b's arcs go for two
  pub inputs_shared_count : arcs N (inputs_shared a b k e g) + fan_out N g b ≤ arcs N g + 2
  inputs_shared_count = shared_count c ab ka kb out in' a<N b<N hk.1

  -- three arcs of b's pay for the two; with two the deletion pays
  pub inputs_reduced_better : T (enough_out N g b || (two_out N g b && deletes m n N (inputs_shared a b k e g))) → Better counts m n N g (inputs_reduced m n N a b k e g)
  unfolding inputs_reduced
  inputs_reduced_better = go (enough_out N g b) refl
    where
      g' : Graph
      g' = inputs_shared a b k e g

      go : (enough : Bool) → enough_out N g b ≡ enough → T (enough || (two_out N g b && deletes m n N (inputs_shared a b k e g)))
          → Better counts m n N g (λ u t. cond enough (inputs_shared a b k e g u t) (deleted m n N (inputs_shared a b k e g) u t))
      go true q _ = record { same = inputs_shared_keeps; fewer = omega (arith, inputs_shared_count, leb→le 3 (fan_out N g b) (true_is q)) }
      go false q p =
          let d = and_e (two_out N g b) (deletes m n N g') p in
          record {
            same = same_on inputs_shared_keeps (deleted_keeps m n N counts inputs_shared_keeps.sound);
            fewer = omega (arith, inputs_shared_count, eqb→eq (fan_out N g b) 2 d.0, ltb→lt (arcs N (deleted m n N g')) (arcs N g') d.1);
          }

pub share_inputs_better : {m n N : ℕ} (a b k : ℕ) {g : Graph} (e : ℤ) → Sound m n N g → share_inputs_verdict m n N a b k g ≡ accepted e → Better every_pair m n N g (inputs_reduced m n N a b k e g)
unfolding matrix
share_inputs_better {m} {n} {N} a b k {g} e s q =
    let h = share_inputs_accepted m n N a b k g e q in
    inputs_reduced_better every_pair a b k e s h.input_a h.input_b h.two h.inner h.free
    (λ j l _. common_accepted n (matrix m N g a) (matrix m N g b) e h.difference j l) h.in_range h.pays

-- the arcs of a vertex that is not inner are those that the share leaves
pub reduced_outside : (m n N a b k : ℕ) (e : ℤ) (g : Graph) (u t : ℕ) → T (not (is_inner m n N u)) → inputs_reduced m n N a b k e g u t ≡ inputs_shared a b k e g u t
unfolding inputs_reduced
reduced_outside m n N a b k e g u t h =
    cond_elim (λ (d : Delay). d ≡ inputs_shared a b k e g u t) (enough_out N g b) (inputs_shared a b k e g u t) (deleted m n N (inputs_shared a b k e g) u t)
    (λ _. refl) (λ _. outside_stays m n N (inputs_shared a b k e g) N u t h)
