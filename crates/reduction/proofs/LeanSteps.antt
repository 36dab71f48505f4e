-- Shrink and merge back keep a graph lean.
use mathlib.Core.Path.{◌≡◌, sym, ap, ◌∙◌, subst}
use mathlib.Core.Logic.{◌≢◌, ◌⊎◌, inl, inr}
use mathlib.Core.List.{List, [], ◌∷◌}
use Prim.Native.Nat.{ℕ, ◌<◌}
use native.Mathlib.Decide.{ℕ_discrete}
use native.Mathlib.Omega.{arith}
use lib.Dec.{T, eqb, eqb→eq}
use lib.IntN.{ℤ, neg_ℤ}
use Rattle.laws.proofs.Booleans.{or_cases}
use Rattle.graph.specs.Delay.{Delay, absent, at, present, immediate, ◌⊕◌, ◌⊑◌}
use Rattle.graph.specs.Graph.{Graph, path_delay, Acyclic, Longest, longest, walk}
use Rattle.laws.proofs.Sums.{sum_term}
use Rattle.graph.specs.Count.{bit, fan_in, fan_out}
use Rattle.graph.proofs.Delay.{⊑_trans, ⊑-eq, ⊕-immediate, immediate-⊕, ⊕-assoc, ⊕-mono, ⊕-left, ⊕-right, ⋓-elim, ⋓-l, ⋓-r, none_l, none_r, ⊕-cancel}
use Rattle.graph.proofs.Presence.{absent_bit, present-⊑, present_l, present_r, absent_or, not-present, at_present}
use Rattle.graph.proofs.Closure.{arc_⊑, walk_same, walk_other, walk-⊒, walk_arc, path_walk}
use Rattle.graph.proofs.Count.{sole}
use Rattle.graph.proofs.Rank.{Ranked}
use Rattle.graph.proofs.Arrivals.{walk-arrivals}
use Rattle.timing.specs.Refusal.{accepted}
use Rattle.timing.specs.Sound.{Sound}
use Rattle.timing.proofs.Checks.{sound_within}
use Rattle.reduction.specs.Outcome.{every_pair}
use Rattle.reduction.specs.Prune.{critical}
use Rattle.reduction.specs.Shrink.{shrink_verdict, shrunk}
use Rattle.reduction.specs.MergeBack.{driver, driver_delay, merge_back_verdict, merged_back}
use Rattle.reduction.specs.Lean.{Lean}
use Rattle.reduction.proofs.Accepted.{ShrinkAccepted, shrink_accepted, merge_back_accepted}
use Rattle.reduction.proofs.Better.{Output, Inner, Same, alone, rank_of, longest_of, input_output, input_inner, output_inner}
use Rattle.reduction.proofs.Shrink.{Shrunk, shrunk_is, shrunk_same, shrink_better}
use Rattle.reduction.proofs.MergeBack.{Merged, Single, merged_back_is, driver_single, merged_same, merge_back_better}
use Rattle.reduction.proofs.Lean.{Joined, decided, carried}

-- what is taken off, added again
taken_off : (y : Delay) (d : ℤ) → y ≡ at d ⊕ (y ⊕ at (neg_ℤ d))
taken_off y d = sym (ap (λ (z : Delay). z ⊕ (y ⊕ at (neg_ℤ d))) (sym (immediate-⊕ (at d))) ∙ ⊕-cancel immediate y d ∙ immediate-⊕ y)

-- ---- greatest walks

pub walk_kept : (L L' : Graph) (u v : ℕ) → (v ≢ u → L' u v ≡ L u v) → walk L u v ⊑ walk L' u v
walk_kept L L' u v h = ⊑-eq (go (ℕ_discrete u v))
  where
    go : Dec (u ≡ v) → walk L u v ≡ walk L' u v
    go (yes e) = rw e (walk_same L v ∙ sym (walk_same L' v))
    go (no n) = walk_other L u v n ∙ sym (walk_other L' u v n ∙ h (λ e. n (sym e)))

module _ {g L : Graph} (a : Acyclic g) (l : Longest g L) where
  -- a greatest walk begins with a first arc
  first_arc : (u v : ℕ) → v ≢ u → (x : ℕ) × (walk L u v ⊑ g u x ⊕ walk L x v)
  first_arc u v n = go (l.reached u v).0 (walk_other L u v (λ e. n (sym e)) ∙ (l.reached u v).1)
    where
      go : (xs : List ℕ) → walk L u v ≡ path_delay g u xs v → (x : ℕ) × (walk L u v ⊑ g u x ⊕ walk L x v)
      go [] e = (v, ⊑-eq (e ∙ sym (ap (λ (d : Delay). g u v ⊕ d) (walk_same L v) ∙ ⊕-immediate (g u v))))
      go (x ∷ xs) e = (x, ⊑_trans (⊑-eq e) (⊕-left (g u x) (⊑_trans (l.bound x xs v) (walk-⊒ a l x v))))

  -- to a vertex with one arc in, and from one with one arc out
  only_in : (i k p : ℕ) → k ≢ i → ((x : ℕ) → x ≢ p → g x k ≡ absent) → walk L i k ⊑ walk L i p ⊕ g p k
  only_in i k p n only = let w = (walk-arrivals a l i).last k n in go w.0 w.1 (ℕ_discrete w.0 p)
    where
      go : (x : ℕ) → walk L i k ⊑ walk L i x ⊕ g x k → Dec (x ≡ p) → walk L i k ⊑ walk L i p ⊕ g p k
      go x h (yes e) = rw e at h
      go x h (no q) = ⊑_trans h (none_r (walk L i x) (only x q))

  only_out : (k p j : ℕ) → j ≢ k → ((x : ℕ) → x ≢ p → g k x ≡ absent) → walk L k j ⊑ g k p ⊕ walk L p j
  only_out k p j n only = let w = first_arc k j n in go w.0 w.1 (ℕ_discrete w.0 p)
    where
      go : (x : ℕ) → walk L k j ⊑ g k x ⊕ walk L x j → Dec (x ≡ p) → walk L k j ⊑ g k p ⊕ walk L p j
      go x h (yes e) = rw e at h
      go x h (no q) = ⊑_trans h (none_l (walk L x j) (only x q))

-- ---- shrink

pub shrunk_lean : {m n N : ℕ} (k : ℕ) {g : Graph} (x : Unit {0}) → Sound m n N g → shrink_verdict m n N k g ≡ accepted x → Lean m n N g → Lean m n N (shrunk k g)
unfolding fan_in fan_out
shrunk_lean {m} {n} {N} k {g} x s e lean = record { deciding = λ u t h. go u t h (ℕ_discrete u k) (ℕ_discrete t k) }
  where
    g' : Graph
    g' = shrunk k g

    D : Graph
    D = longest g N

    D' : Graph
    D' = longest (shrunk k g) N

    inner : Inner m n N k
    inner = (shrink_accepted m n N k g x e).inner

    c : Shrunk k g g'
    c = shrunk_is k g

    b : Same every_pair m n N g g'
    b = (shrink_better k x s e).same

    kept : (u v : ℕ) → u ≢ k → v ≢ k → walk D u v ⊑ walk D' u v
    kept u v hu hv = walk_kept D D' u v (λ ne. shrunk_same c (rank_of s) (longest_of s) (longest_of b.sound) u v ne hu hv)

    -- d with the old greatest walks reaches the delay of i and j, and the new arc is at least d
    by : (u t : ℕ) → u ≢ k → t ≢ k → (d : Delay) → d ⊑ g' u t → (w : Joined m n N g) → D w.input w.output ⊑ walk D w.input u ⊕ (d ⊕ walk D t w.output)
        → T (critical every_pair m n N g' u t)
    by u t hu ht d low w h = carried b u t w
        (⊑_trans h (⊕-mono (kept w.input u (input_inner s w.input k w.is_input inner) hu) (⊕-mono low (kept t w.output ht (output_inner s w.output k w.is_output inner)))))

    go : (u t : ℕ) → T (present (g' u t)) → Dec (u ≡ k) → Dec (t ≡ k) → T (critical every_pair m n N g' u t)
    go u t h (yes z) _ = absurd (not-present (g' u t) (rw z (c.gone_out t)) h)
    go u t h (no p) (yes z) = absurd (not-present (g' u t) (rw z (c.gone_in u)) h)
    go u t h (no p) (no q) = ⋓-elim (λ (d : Delay). T (present d) → T (critical every_pair m n N g' u t)) (g u t) (g u k ⊕ g k t)
        direct (λ both. through (present_l (g u k) (g k t) both) (present_r (g u k) (g k t) both) (or_cases (eqb (fan_in N g k) 1) (eqb (fan_out N g k) 1) (shrink_accepted m n N k g x e).relay))
        (rw (c.rest u t p q) at h)
      where
        direct : T (present (g u t)) → T (critical every_pair m n N g' u t)
        direct there =
            let w = decided u t (lean.deciding u t there) in
            by u t p q (g u t) (rw (c.rest u t p q) (⋓-l (g u t) (g u k ⊕ g k t))) w.0 w.1

        sum : g u k ⊕ g k t ⊑ g' u t
        sum = rw (c.rest u t p q) (⋓-r (g u t) (g u k ⊕ g k t))

        -- k's only arc in precedes k→t on each path, or its only arc out follows u→k
        through : T (present (g u k)) → T (present (g k t)) → T (eqb (fan_in N g k) 1) ⊎ T (eqb (fan_out N g k) 1) → T (critical every_pair m n N g' u t)
        through in-k out-k (inl one) =
            let w = decided k t (lean.deciding k t out-k) in
            let i = w.0.input in
            let beyond = walk D t w.0.output in
            let only = alone N (λ u. g u k) (λ u t. ((sound_within s).in_range u k t).0) (eqb→eq (fan_in N g k) 1 one) u in-k in
            by u t p q (g u k ⊕ g k t) sum w.0
            (⊑_trans w.1 (⊑_trans (⊕-right (g k t ⊕ beyond) (only_in s.acyclic (longest_of s) i k u (λ z. input_inner s i k w.0.is_input inner (sym z)) only))
            (⊑-eq (⊕-assoc (walk D i u) (g u k) (g k t ⊕ beyond) ∙ ap (λ (d : Delay). walk D i u ⊕ d) (sym (⊕-assoc (g u k) (g k t) beyond))))))
        through in-k out-k (inr one) =
            let w = decided u k (lean.deciding u k in-k) in
            let j = w.0.output in
            let only = alone N (λ v. g k v) (λ v t. ((sound_within s).in_range k v t).1) (eqb→eq (fan_out N g k) 1 one) t out-k in
            by u t p q (g u k ⊕ g k t) sum w.0
            (⊑_trans w.1 (⊕-left (walk D w.0.input u) (⊑_trans (⊕-left (g u k) (only_out s.acyclic (longest_of s) k t j (output_inner s j k w.0.is_output inner) only))
            (⊑-eq (sym (⊕-assoc (g u k) (g k t) (walk D t j)))))))

-- ---- merge back

pub merged_lean : {m n N : ℕ} (o : ℕ) {g : Graph} (x : ℕ × ℤ) → Sound m n N g → merge_back_verdict m n N o g ≡ accepted x → Lean m n N g → Lean m n N (merged_back x.0 o x.1 g)
merged_lean {m} {n} {N} o {g} x s e lean =
    let h = merge_back_accepted m n N o g x e in
    subst (λ (y : ℕ × ℤ). Lean m n N (merged_back y.0 o y.1 g)) h.answer
    (step h.inner h.output (driver_single s o h.inner h.single) (merge_back_better o (v, d) s (e ∙ ap accepted (sym h.answer))).same)
  where
    v : ℕ
    v = driver N g o

    d : ℤ
    d = driver_delay N g o

    g' : Graph
    g' = merged_back v o d g

    step : Inner m n N v → Output m n o → Single v o d g → Same every_pair m n N g g' → Lean m n N g'
    step hv ho one b = record { deciding = λ u t h. go u t h (ℕ_discrete u v) (ℕ_discrete t v) (ℕ_discrete u o) (ℕ_discrete t o) }
      where
        D : Graph
        D = longest g N

        D' : Graph
        D' = longest g' N

        r : Ranked g
        r = rank_of s

        l : Longest g D
        l = longest_of s

        l' : Longest g' D'
        l' = longest_of b.sound

        ov : o ≢ v
        ov = output_inner s o v ho hv

        c : Merged v o d g g'
        c = merged_back_is v o d g ov

        v<o : r.rank v < r.rank o
        v<o = r.rise v o (at_present one.arc)

        -- greatest walks from a vertex other than v and o, to any but v
        kept : (u t : ℕ) → u ≢ v → u ≢ o → t ≢ v → walk D u t ⊑ walk D' u t
        kept u t p q h = walk_kept D D' u t (λ ne. merged_same c one (λ z. ov (sym z)) r l l' u t ne (λ z. p (sym z)) (λ z. q (sym z)) h)

        -- and from o, by a first arc to x
        onward : (x j : ℕ) (y : Delay) → x ≢ v → x ≢ o → j ≢ v → y ⊑ g' o x → y ⊕ walk D x j ⊑ walk D' o j
        onward x j y p q n h = ⊑_trans (⊕-mono (⊑_trans h (arc_⊑ l' o x)) (kept x j p q n)) (⊑_trans (path_walk b.sound.acyclic l' o x j) (walk-⊒ b.sound.acyclic l' o j))

        from_o : (j : ℕ) → j ≢ v → walk D o j ⊑ walk D' o j
        from_o j n = pick (ℕ_discrete j o)
          where
            first : (x : ℕ) → walk D o j ⊑ g o x ⊕ walk D x j → (g o x ≡ absent) ⊎ T (present (g o x)) → walk D o j ⊑ walk D' o j
            first x h (inl z) = ⊑_trans h (none_l (walk D x j) z)
            first x h (inr t) =
                let o<x = r.rise o x t in
                let xv : x ≢ v = λ z. omega (arith, v<o, o<x, ap r.rank z) in
                let xo : x ≢ o = λ z. omega (arith, o<x, ap r.rank z) in
                ⊑_trans h (onward x j (g o x) xv xo n (rw (c.out x xo xv) (⋓-l (g o x) (g v x ⊕ at (neg_ℤ d)))))

            pick : Dec (j ≡ o) → walk D o j ⊑ walk D' o j
            pick (yes z) = walk_kept D D' o j (λ ne. absurd (ne z))
            pick (no ne) = let w = first_arc s.acyclic l o j ne in first w.0 w.1 (absent_or (g o w.0))

        -- from v they were as long, but for v→o
        from_v : (j : ℕ) → j ≢ v → walk D v j ⊑ at d ⊕ walk D' o j
        from_v j n = let w = first_arc s.acyclic l v j n in first w.0 w.1 (absent_or (g v w.0)) (ℕ_discrete w.0 o)
          where
            first : (x : ℕ) → walk D v j ⊑ g v x ⊕ walk D x j → (g v x ≡ absent) ⊎ T (present (g v x)) → Dec (x ≡ o) → walk D v j ⊑ at d ⊕ walk D' o j
            first x h (inl z) _ = ⊑_trans h (none_l (walk D x j) z)
            first x h (inr t) (yes z) = ⊑_trans (rw (z, one.arc) at h) (⊕-left (at d) (from_o j n))
            first x h (inr t) (no xo) =
                let xv : x ≢ v = λ z. omega (arith, r.rise v x t, ap r.rank z) in
                let y = g v x ⊕ at (neg_ℤ d) in
                ⊑_trans h (⊑_trans (⊑-eq (ap (λ (z : Delay). z ⊕ walk D x j) (taken_off (g v x) d) ∙ ⊕-assoc (at d) y (walk D x j)))
                (⊕-left (at d) (onward x j y xv xo n (rw (c.out x xo xv) (⋓-r (g o x) y)))))

        before : (w : Joined m n N g) (u : ℕ) → u ≢ v → walk D w.input u ⊑ walk D' w.input u
        before w u p = kept w.input u (input_inner s w.input v w.is_input hv) (λ z. input_output s w.input o w.is_input ho (sym z)) p

        beyond : (w : Joined m n N g) → w.output ≢ v
        beyond w = output_inner s w.output v w.is_output hv

        -- y with the old greatest walks reaches the delay of a pair, and the new arc is at least y
        by : (u t : ℕ) → u ≢ v → t ≢ v → t ≢ o → (y : Delay) → y ⊑ g' u t → (w : Joined m n N g) → D w.input w.output ⊑ walk D w.input u ⊕ (y ⊕ walk D t w.output)
            → T (critical every_pair m n N g' u t)
        by u t p q f y low w h = carried b u t w (⊑_trans h (⊕-mono (before w u p) (⊕-mono low (kept t w.output q f (beyond w)))))

        -- an arc to v is one to o now
        into : (u : ℕ) → u ≢ v → T (present (g u v)) → T (critical every_pair m n N g' u o)
        into u p there =
            let w = decided u v (lean.deciding u v there) in
            let j = w.0.output in
            carried b u o w.0 (⊑_trans w.1 (⊕-mono (before w.0 u p) (⊑_trans (⊕-left (g u v) (from_v j (beyond w.0)))
            (⊑-eq (sym (⊕-assoc (g u v) (at d) (walk D' o j)) ∙ ap (λ (z : Delay). z ⊕ walk D' o j) (sym (c.into u p)))))))

        -- an arc of v is one of o
        out : (t : ℕ) → t ≢ v → t ≢ o → T (present (g v t)) → T (critical every_pair m n N g' o t)
        out t q f there =
            let w = decided v t (lean.deciding v t there) in
            let i = w.0.input in
            let W = walk D t w.0.output in
            let y = g v t ⊕ at (neg_ℤ d) in
            by o t ov q f y (rw (c.out t f q) (⋓-r (g o t) y)) w.0
            (⊑_trans w.1 (⊑_trans (⊑-eq (sym (⊕-assoc (walk D i v) (g v t) W) ∙ ap (λ (z : Delay). z ⊕ W) (sym (⊕-cancel (walk D i v) (g v t) d))))
            (⊑_trans (⊕-right W (⊕-right y (⊑_trans (rw one.arc at (walk_arc s.acyclic l i v o)) (walk-⊒ s.acyclic l i o)))) (⊑-eq (⊕-assoc (walk D i o) y W)))))

        go : (u t : ℕ) → T (present (g' u t)) → Dec (u ≡ v) → Dec (t ≡ v) → Dec (u ≡ o) → Dec (t ≡ o) → T (critical every_pair m n N g' u t)
        go u t h (yes z) _ _ _ = absurd (not-present (g' u t) (rw z (c.gone_out t)) h)
        go u t h (no p) (yes z) _ _ = absurd (not-present (g' u t) (rw z (c.gone_in u)) h)
        go u t h (no p) (no q) _ (yes f) = rw f (into u p (present_l (g u v) (at d) (rw (f, c.into u p) at h)))
        go u t h (no p) (no q) (yes z) (no f) = rw z (⋓-elim (λ (y : Delay). T (present y) → T (critical every_pair m n N g' o t)) (g o t) (g v t ⊕ at (neg_ℤ d)) own
            (λ k. out t q f (present_l (g v t) (at (neg_ℤ d)) k)) (rw (z, c.out t f q) at h))
          where
            own : T (present (g o t)) → T (critical every_pair m n N g' o t)
            own there = let w = decided o t (lean.deciding o t there) in by o t ov q f (g o t) (rw (c.out t f q) (⋓-l (g o t) (g v t ⊕ at (neg_ℤ d)))) w.0 w.1
        go u t h (no p) (no q) (no z) (no f) =
            let w = decided u t (lean.deciding u t (rw (c.rest u t p z q f) at h)) in
            by u t p q f (g u t) (⊑-eq (sym (c.rest u t p z q f))) w.0 w.1

-- ---- a vertex without arcs out

-- on a lean graph an inner vertex without arcs out has none in, so that shrink is refused
pub sink_refused : {m n N : ℕ} (k : ℕ) {g : Graph} → Sound m n N g → Lean m n N g → fan_out N g k ≡ 0 → (x : Unit {0}) → shrink_verdict m n N k g ≡ accepted x → ⊥
unfolding fan_in fan_out
sink_refused {m} {n} {N} k {g} s h none x e = go (or_cases (eqb (fan_in N g k) 1) (eqb (fan_out N g k) 1) a.relay)
  where
    D : Graph
    D = longest g N

    a : ShrinkAccepted m n N k g
    a = shrink_accepted m n N k g x e

    out : (v : ℕ) → T (present (g k v)) → ⊥
    out v t = not-present (g k v) (absent_bit (g k v) (omega (arith, none, sum_term N (λ v. bit (g k v)) v (s.legal k v t).to_below))) t

    -- an arc in decides for a pair, so that a path leads on to its output
    driven : (u : ℕ) → T (present (g u k)) → ⊥
    driven u t =
        let p = decided u k (h.deciding u k t) in
        let i = p.0.input in
        let j = p.0.output in
        let on = present_r (g u k) (walk D k j) (present_r (walk D i u) (g u k ⊕ walk D k j) (present-⊑ p.1 p.0.there)) in
        let f = first_arc s.acyclic (longest_of s) k j (output_inner s j k p.0.is_output a.inner) in
        out f.0 (present_l (g k f.0) (walk D f.0 j) (present-⊑ f.1 on))

    go : T (eqb (fan_in N g k) 1) ⊎ T (eqb (fan_out N g k) 1) → ⊥
    go (inl q) = let o = sole N (λ u. g u k) (λ u t. (s.legal u k t).from_below) (eqb→eq (fan_in N g k) 1 q) in driven o.0 o.2
    go (inr q) = omega (arith, none, eqb→eq (fan_out N g k) 1 q)
