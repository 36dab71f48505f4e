-- Sharing outputs: the arrivals stay as they are, b's coming from a.
use mathlib.Core.Path.{◌≡◌, sym, ap, ◌∙◌}
use mathlib.Core.Logic.{◌≢◌}
use Prim.Native.Nat.{ℕ, suc, ◌+◌, ◌≤◌, ◌<◌}
use native.Mathlib.Decide.{ℕ_discrete}
use native.Mathlib.Omega.{arith}
use lib.Dec.{T, leb→le}
use lib.IntN.{ℤ}
use Rattle.laws.proofs.Booleans.{eqb_same, eqb_other}
use Rattle.laws.proofs.Sums.{sum_le, sum_but_one, sum_single}
use Rattle.graph.specs.Delay.{Delay, absent, at, present, ◌⊕◌, ◌⊑◌}
use Rattle.graph.specs.Graph.{Graph, Longest, longest, walk}
use Rattle.graph.specs.Count.{bit, fan_in, arcs}
use Rattle.graph.proofs.Delay.{⊑_refl, none_r}
use Rattle.graph.proofs.Presence.{present-⊕, present-⊑, not-present, bit_le, bit_absent, bit_same}
use Rattle.graph.proofs.Closure.{walk_same, walk_other}
use Rattle.graph.proofs.Rank.{Ranked, ranked_acyclic}
use Rattle.graph.proofs.Arrivals.{Arrivals, arrivals-longest, walk-arrivals}
use Rattle.graph.proofs.Count.{arcs-fan_in}
use Rattle.timing.specs.Limits.{delay_limit, fits}
use Rattle.timing.specs.Refusal.{accepted}
use Rattle.timing.specs.Sound.{LegalArc, Sound}
use Rattle.reduction.specs.Outcome.{every_pair}
use Rattle.reduction.proofs.Better.{Output, Better, rank_of, longest_of, input_output, better}
use Rattle.reduction.proofs.Lift.{lift, lift_mono}
use Rattle.reduction.specs.ShareOutputs.{share_outputs_verdict, outputs_shared}
use Rattle.reduction.proofs.Accepted.{common_accepted, share_outputs_accepted}
use Rattle.timing.specs.Delays.{column}

pub record Tied (a b : ℕ) (e : ℤ) (g g' : Graph) : Type 0 where
  pub new : g' a b ≡ at e
  pub gone : (u : ℕ) → u ≢ a → g' u b ≡ absent
  pub rest : (u v : ℕ) → v ≢ b → g' u v ≡ g u v

module _ {a b : ℕ} {e : ℤ} {g g' : Graph} (s : Tied a b e g g') (ab : a ≢ b) (r : Ranked g) where
  -- the vertices that b reaches go above a
  pub tied_ranked : {L : Graph} → Longest g L → L b a ≡ absent → Ranked g'
  unfolding lift
  tied_ranked {L} l no_way = record { rank = λ v. r.rank v + lift (walk L b v) (suc (r.rank a)); rise = λ u v t. go u v t (ℕ_discrete v b) (ℕ_discrete u a) }
    where
      R : ℕ
      R = suc (r.rank a)

      low : lift (walk L b a) R ≡ 0
      low = ap (λ (d : Delay). lift d R) (walk_other L b a (λ x. ab (sym x)) ∙ no_way)

      high : lift (walk L b b) R ≡ R
      high = ap (λ (d : Delay). lift d R) (walk_same L b)

      go : (u v : ℕ) → T (present (g' u v)) → Dec (v ≡ b) → Dec (u ≡ a) → r.rank u + lift (walk L b u) R < r.rank v + lift (walk L b v) R
      go u v t (yes p) (yes q) = rw (p, q) (omega (arith, low, high))
      go u v t (yes p) (no n) = absurd (not-present (g' u v) (rw p (s.gone u n)) t)
      go u v t (no n) d =
          let t' : T (present (g u v)) = rw (s.rest u v n) at t in
          omega (
            arith,
            r.rise u v t',
            lift_mono (walk L b u) (walk L b v) R
                (λ h. present-⊑ ((walk-arrivals (ranked_acyclic r) l b).flow u v) (present-⊕ (walk L b u) (g u v) h t')),
          )

  tied_arrivals : {i : ℕ} {F : ℕ → Delay} → Arrivals g i F → F b ≡ F a ⊕ at e → Arrivals g' i F
  tied_arrivals {i} {F} c eq = record { start = c.start; flow = λ u v. flow' u v (ℕ_discrete v b) (ℕ_discrete u a); last = λ v n. last' v n (ℕ_discrete v b) }
    where
      flow' : (u v : ℕ) → Dec (v ≡ b) → Dec (u ≡ a) → F u ⊕ g' u v ⊑ F v
      flow' u v (yes p) (yes q) = rw (p, q, s.new, eq) (⊑_refl (F a ⊕ at e))
      flow' u v (yes p) (no n) = none_r (F u) (rw p (s.gone u n))
      flow' u v (no n) d = rw (s.rest u v n) (c.flow u v)

      last' : (v : ℕ) → v ≢ i → Dec (v ≡ b) → (u : ℕ) × (F v ⊑ F u ⊕ g' u v)
      last' v n (yes p) = (a, rw (p, s.new, eq) (⊑_refl (F a ⊕ at e)))
      last' v n (no m) = ((c.last v n).0, rw (s.rest (c.last v n).0 v m) (c.last v n).1)

  pub tied_same : {L L' : Graph} → Longest g L → Longest g' L' → L b a ≡ absent → (i j : ℕ) → j ≢ i → a ≢ i → b ≢ i → L i b ≡ L i a ⊕ at e → L' i j ≡ L i j
  tied_same {L} l l' no_way i j ne na nb eq =
      arrivals-longest (tied_arrivals (walk-arrivals (ranked_acyclic r) l i) (rw (walk_other L i a (λ e. na (sym e)), walk_other L i b (λ e. nb (sym e))) eq)) (tied_ranked l no_way) l' j ne
      ∙ walk_other L i j (λ e. ne (sym e))

pub tied_fewer : {N a b : ℕ} {e : ℤ} {g g' : Graph} → Tied a b e g g' → a < N → b < N → 2 ≤ fan_in N g b → arcs N g' < arcs N g
unfolding fan_in
tied_fewer {N} {a} {b} {e} {g} {g'} s aN bN two =
    omega (
      arith,
      arcs-fan_in N g,
      arcs-fan_in N g',
      sum_but_one N (fan_in N g') (fan_in N g) b 1 0 bN
          (λ v _ n. sum_le N (λ u. bit (g' u v)) (λ u. bit (g u v)) (λ u _. bit_same (s.rest u v n)))
          (omega (arith, sum_single N (λ u. bit (g' u b)) a aN (λ u n. bit_absent (s.gone u n)), bit_le (g' a b))),
    )

-- ---- the step

outputs_shared_is : (a b : ℕ) (e : ℤ) (g : Graph) → Tied a b e g (outputs_shared a b e g)
unfolding outputs_shared
outputs_shared_is a b e g = record { new = simp eqb_same; gone = λ u n. simp (eqb_same, eqb_other); rest = λ u v n. simp eqb_other }

-- from the facts that the verdict gives
pub outputs_shared_better : {m n N : ℕ} (a b : ℕ) {g : Graph} (e : ℤ) → Sound m n N g → Output m n a → Output m n b → a ≢ b → ((i : ℕ) → i < m → longest g N i b ≡ longest g N i a ⊕ at e)
    → longest g N b a ≡ absent → 2 ≤ fan_in N g b → T (fits delay_limit (at e)) → Better every_pair m n N g (outputs_shared a b e g)
outputs_shared_better {m} {n} {N} a b {g} e s ha hb ab dif way two low =
    better s legal (tied_ranked c ab (rank_of s) (longest_of s) way)
    (λ l' i j hi hj. tied_same c ab (rank_of s) (longest_of s) l' way i j (input_output s i j hi hj) (input_output s i a hi ha) (input_output s i b hi hb) (dif i hi))
    (tied_fewer c a<N b<N two)
  where
    c : Tied a b e g (outputs_shared a b e g)
    c = outputs_shared_is a b e g

    a<N : a < N
    a<N = omega (arith, s.room)

    b<N : b < N
    b<N = omega (arith, s.room)

    legal : (u v : ℕ) → T (present (outputs_shared a b e g u v)) → LegalArc m N u v (outputs_shared a b e g u v)
    legal u v = go (ℕ_discrete v b) (ℕ_discrete u a)
      where
        go : Dec (v ≡ b) → Dec (u ≡ a) → T (present (outputs_shared a b e g u v)) → LegalArc m N u v (outputs_shared a b e g u v)
        go (yes p) (yes q) t = rw (p, q, c.new) (record { from_below = a<N; to_below = b<N; not_input = hb.0; in_range = low })
        go (yes p) (no q) t = absurd (not-present (outputs_shared a b e g u v) (rw p (c.gone u q)) t)
        go (no p) _ t = rw (c.rest u v p) (s.legal u v (rw (c.rest u v p) at t))

pub share_outputs_better : {m n N : ℕ} (a b : ℕ) {g : Graph} (e : ℤ) → Sound m n N g → share_outputs_verdict m n N a b g ≡ accepted e → Better every_pair m n N g (outputs_shared a b e g)
share_outputs_better {m} {n} {N} a b {g} e s q =
    let h = share_outputs_accepted m n N a b g e q in
    outputs_shared_better a b e s h.output_a h.output_b h.two (common_accepted m (column N g a) (column N g b) e h.difference) h.no_way (leb→le 2 (fan_in N g b) h.enough) h.in_range
