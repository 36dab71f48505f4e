-- A star: no sum through the centre is above the arc it stands for, so shrinking the centre gives the old graph back.
use mathlib.Core.Path.{◌≡◌, refl, ap, ◌∙◌}
use mathlib.Core.Logic.{◌≢◌, ◌⊎◌, inl, inr}
use mathlib.Core.Bool.{Bool, true, false, not, cond, ◌||◌}
use mathlib.Core.List.{List, [], ◌∷◌}
use Prim.Native.Nat.{ℕ, ◌+◌, ◌≤◌, ◌<◌}
use native.Mathlib.Decide.{ℕ_discrete, dec_lt}
use native.Mathlib.Omega.{arith}
use lib.Dec.{T, eqb, ltb, ltb→lt}
use lib.IntN.{ℤ}
use lib.Signed.{lt_z}
use Rattle.laws.specs.Bounded.{sum, member, each}
use Rattle.laws.specs.Integers.{min_z}
use Rattle.laws.proofs.Booleans.{eqb_same, eqb_other, eq→eqb, cond_elim, and_e, or_l, or_r, T-not-false}
use Rattle.laws.proofs.Sums.{sum_le, sum_add, sum_zero, sum_but_one, sum_same_but_one, sum_single}
use Rattle.graph.specs.Delay.{Delay, absent, present, ◌⋓◌, ◌⊕◌, ◌⊑◌, ◌⊖◌, ◌⋒◌, least, at}
use Rattle.graph.specs.Graph.{Graph}
use Rattle.graph.specs.Count.{bit, fan_in, fan_out, arcs}
use Rattle.graph.proofs.Delay.{absent_⊑, ⊑_refl, ⊑_trans, ⊑-antisym, ⊕-absent, ⊕-right, ⋓-l, ⋓-lub, ⊖-⊕, least-⊑}
use Rattle.graph.proofs.Presence.{not-present, same_e, bit_le, bit-present, bit_absent}
use Rattle.timing.specs.Limits.{delay_limit, fits}
use Rattle.timing.specs.Refusal.{accepted}
use Rattle.timing.specs.Sound.{LegalArc, Sound}
use Rattle.timing.proofs.Checks.{sound_within}
use Rattle.reduction.specs.Outcome.{every_pair}
use Rattle.reduction.proofs.Accepted.{star_accepted}
use Rattle.reduction.proofs.Better.{Inner, Better, inner_of, unused_in, unused_out, rank_of, longest_of, input_output, input_inner, output_inner, better}
use lib.ListN.{length}
use Rattle.laws.proofs.Bounded.{each_at}
use Rattle.graph.proofs.Longest.{Within}
use Rattle.reduction.specs.Star.{non_empty, distinct, first_of, to_centre, from_centre, covered, holding, covered_arcs, star_verdict, centred, starred}
use Rattle.reduction.proofs.Shrink.{Shrunk}
use Rattle.reduction.proofs.Unshrink.{unshrunk_ranked, unshrunk_same}

pub record Starred (k : ℕ) (g g' : Graph) : Type 0 where
  pub fresh_out : (v : ℕ) → g k v ≡ absent
  pub fresh_in : (u : ℕ) → g u k ≡ absent
  -- no delay through k is above the arc's
  pub thru : (u v : ℕ) → u ≢ k → v ≢ k → g' u k ⊕ g' k v ⊑ g u v
  -- an arc stays, or goes where it is equal to its sum through k
  pub cell : (u v : ℕ) → u ≢ k → v ≢ k → (g' u v ≡ g u v) ⊎ ((g' u v ≡ absent) × (g u v ≡ g' u k ⊕ g' k v))

pub starred-shrunk : {k : ℕ} {g g' : Graph} → Starred k g g' → Shrunk k g' g
starred-shrunk {k} {g} {g'} s = record { gone_out = s.fresh_out; gone_in = s.fresh_in; rest = λ u v a b. go u v a b (s.cell u v a b) }
  where
    go : (u v : ℕ) → u ≢ k → v ≢ k → (g' u v ≡ g u v) ⊎ ((g' u v ≡ absent) × (g u v ≡ g' u k ⊕ g' k v)) → g u v ≡ g' u v ⋓ (g' u k ⊕ g' k v)
    go u v a b (inl e) = rw e (⊑-antisym (⋓-l (g u v) (g' u k ⊕ g' k v)) (⋓-lub (⊑_refl (g u v)) (s.thru u v a b)))
    go u v a b (inr (e, h)) = rw e h

-- the arcs that go are more than those that stay by those of the centre
pub starred_arcs : {N k : ℕ} (g g' : Graph) (cov : ℕ → ℕ → ℕ) → k < N → ((v : ℕ) → g k v ≡ absent) → ((u : ℕ) → g u k ≡ absent) → g' k k ≡ absent → ((v : ℕ) → cov k v ≡ 0) → ((u : ℕ) → cov u k ≡ 0)
    → ((u v : ℕ) → u ≢ k → v ≢ k → bit (g' u v) + cov u v ≡ bit (g u v))
    → arcs N g' + sum N (λ u. sum N (λ v. cov u v)) ≡ arcs N g + (fan_in N g' k + fan_out N g' k)
unfolding arcs fan_out fan_in
starred_arcs {N} {k} g g' cov kN out in' loop row col cell =
    omega (
      arith,
      sum_same_but_one N (λ u. fan_out N g' u + sum N (λ v. cov u v)) (λ u. fan_out N g u + bit (g' u k)) k 0 (fan_out N g' k) kN (λ u _ n. each u n)
          (omega (arith, sum_zero N (λ v. cov k v) (λ v _. row v), sum_zero N (λ v. bit (g k v)) (λ v _. bit_absent (out v)), bit_absent loop)),
      sum_add N (fan_out N g') (λ u. sum N (λ v. cov u v)),
      sum_add N (fan_out N g) (λ u. bit (g' u k)),
    )
  where
    each : (u : ℕ) → u ≢ k → fan_out N g' u + sum N (λ v. cov u v) ≡ fan_out N g u + bit (g' u k)
    each u n = omega (
      arith,
      sum_same_but_one N (λ v. bit (g' u v) + cov u v) (λ v. bit (g u v)) k 0 (bit (g' u k)) kN (λ v _ m. cell u v n m) (omega (arith, col u, bit_absent (in' u))),
      sum_add N (λ v. bit (g' u v)) (λ v. cov u v),
    )

-- a list's members are at most as many as its length
one_of : (N s : ℕ) → sum N (λ u. cond (eqb u s) 1 0) ≤ 1
one_of N s = go (dec_lt s N)
  where
    go : Dec (s < N) → sum N (λ u. cond (eqb u s) 1 0) ≤ 1
    go (yes l) = let h : ◌≡◌ {A = ℕ} (cond (eqb s s) 1 0) 1 = simp eqb_same in omega (arith, sum_single N (λ u. cond (eqb u s) 1 0) s l (λ u n. simp eqb_other))
    go (no nl) = omega (arith, sum_zero N (λ u. cond (eqb u s) 1 0) (λ u l. ap (λ (b : Bool). cond b 1 0) (eqb_other u s (λ e. nl (rw e at l)))))

pub members : (N : ℕ) (S : List ℕ) → sum N (λ u. cond (member u S) 1 0) ≤ length S
unfolding member
members N [] = omega (arith, sum_zero N (λ u. 0) (λ _ _. refl))
members N (s ∷ S) =
    omega (
      arith,
      members N S,
      one_of N s,
      sum_le N (λ u. cond (eqb u s || member u S) 1 0) (λ u. cond (eqb u s) 1 0 + cond (member u S) 1 0) (λ u _. either (eqb u s) (member u S)),
      sum_add N (λ u. cond (eqb u s) 1 0) (λ u. cond (member u S) 1 0),
    )
  where
    either : (a b : Bool) → cond (a || b) 1 0 ≤ cond a 1 0 + cond b 1 0
    either true b = omega arith
    either false b = omega arith

-- as many, where they are different and below N
pub members_all : (N : ℕ) (S : List ℕ) → T (each S (λ s. ltb s N)) → T (distinct S) → length S ≤ sum N (λ u. cond (member u S) 1 0)
unfolding member each
members_all N [] b d = omega arith
members_all N (s ∷ S) b d =
    let p = and_e (ltb s N) (each S (λ s. ltb s N)) b in
    let q = and_e (not (member s S)) (distinct S) d in
    let out : member s S ≡ false = T-not-false q.0 in
    let here : eqb s s ≡ true = eqb_same s in
    omega (
      arith,
      members_all N S p.1 q.1,
      sum_but_one N (λ u. cond (member u S) 1 0) (λ u. cond (eqb u s || member u S) 1 0) s 1 0 (ltb→lt s N p.0) (λ u _ n. more u n)
          (rw (out, here) (omega arith)),
    )
  where
    more : (u : ℕ) → u ≢ s → cond (member u S) 1 0 ≤ cond (eqb u s || member u S) 1 0
    more u n = rw (eqb_other u s n) (omega arith)

pub first_member : (S : List ℕ) → T (non_empty S) → T (member (first_of S) S)
unfolding member
first_member [] t = absurd t
first_member (x ∷ xs) t = or_l (eqb x x) (member x xs) (eq→eqb x x refl)

-- a least is one of those that it is the least of
pub least_at : (ts : List ℕ) (f : ℕ → Delay) → T (non_empty ts) → (t : ℕ) × T (member t ts) × (least ts f ≡ f t)
unfolding least member min_z
least_at [] f e = absurd e
least_at (t ∷ []) f e = (t, or_l (eqb t t) false (eq→eqb t t refl), refl)
least_at (t ∷ r ∷ ts) f e = go (least_at (r ∷ ts) f tt) (lesser (f t) (least (r ∷ ts) f))
  where
    lesser : (x y : Delay) → (x ⋒ y ≡ x) ⊎ (x ⋒ y ≡ y)
    lesser absent y = inl refl
    lesser (at a) absent = inr refl
    lesser (at a) (at b) = cond_elim (λ (z : ℤ). (at z ≡ at a) ⊎ (at z ≡ at b)) (lt_z b a) b a (λ _. inr refl) (λ _. inl refl)

    go : (x : ℕ) × T (member x (r ∷ ts)) × (least (r ∷ ts) f ≡ f x) → (f t ⋒ least (r ∷ ts) f ≡ f t) ⊎ (f t ⋒ least (r ∷ ts) f ≡ least (r ∷ ts) f)
        → (x : ℕ) × T (eqb x t || member x (r ∷ ts)) × (f t ⋒ least (r ∷ ts) f ≡ f x)
    go p (inl h) = (t, or_l (eqb t t) (member t (r ∷ ts)) (eq→eqb t t refl), h)
    go p (inr h) = (p.0, or_r (eqb p.0 t) (member p.0 (r ∷ ts)) p.1, h ∙ p.2)

bit-cond : (b : Bool) (d : Delay) → bit (cond b d absent) ≤ cond b 1 0
bit-cond true d = bit_le d
bit-cond false d = omega (arith, bit_absent {x = absent} refl)

-- ---- the step: any part of the covered arcs may go

module _ (S Ts : List ℕ) (k : ℕ) (g : Graph) (out : (v : ℕ) → g k v ≡ absent) (in' : (u : ℕ) → g u k ≡ absent)
    (gone : ℕ → ℕ → Bool) (part : (u v : ℕ) → T (gone u v) → T (covered S Ts g u v)) where
  -- a sum through the centre is never above the arc
  centre_⊑ : (u v : ℕ) → to_centre S Ts g u ⊕ from_centre S Ts g v ⊑ g u v
  unfolding to_centre from_centre
  centre_⊑ u v = cond_elim (λ (d : Delay). d ⊕ cond (member v Ts) (g (first_of S) v) absent ⊑ g u v) (member u S) (least Ts (λ t. g u t ⊖ g (first_of S) t)) absent
      (λ _. cond_elim (λ (d : Delay). least Ts (λ t. g u t ⊖ g (first_of S) t) ⊕ d ⊑ g u v) (member v Ts) (g (first_of S) v) absent
      (λ m. ⊑_trans (⊕-right (g (first_of S) v) (least-⊑ Ts (λ t. g u t ⊖ g (first_of S) t) v m)) (⊖-⊕ (g u v) (g (first_of S) v)))
      (λ _. rw ⊕-absent (absent_⊑ (g u v))))
      (λ _. absent_⊑ (g u v))

  pub star_in : (u : ℕ) → u ≢ k → centred gone S Ts k g u k ≡ to_centre S Ts g u
  star_in u n = simp (eqb_same, eqb_other)

  pub star_out : (v : ℕ) → centred gone S Ts k g k v ≡ from_centre S Ts g v
  star_out v = simp eqb_same

  star_loop : centred gone S Ts k g k k ≡ absent
  unfolding from_centre
  star_loop = star_out k ∙ cond_elim (λ (d : Delay). d ≡ absent) (member k Ts) (g (first_of S) k) absent (λ _. in' (first_of S)) (λ _. refl)

  pub star_cell : (u v : ℕ) → u ≢ k → v ≢ k → centred gone S Ts k g u v ≡ cond (gone u v) absent (g u v)
  star_cell u v a b = simp eqb_other

  covers : (u v : ℕ) → T (gone u v) → T (present (g u v)) × (g u v ≡ to_centre S Ts g u ⊕ from_centre S Ts g v)
  unfolding covered
  covers u v t = same_e (g u v) (to_centre S Ts g u ⊕ from_centre S Ts g v) (part u v t)

  pub starred_is : Starred k g (centred gone S Ts k g)
  starred_is = record {
    fresh_out = out;
    fresh_in = in';
    thru = λ u v a b. rw (star_in u a, star_out v) (centre_⊑ u v);
    cell = λ u v a b. rw (star_in u a, star_out v, star_cell u v a b) (cell u v);
  }
    where
      cell : (u v : ℕ) → (cond (gone u v) absent (g u v) ≡ g u v) ⊎ ((cond (gone u v) absent (g u v) ≡ absent) × (g u v ≡ to_centre S Ts g u ⊕ from_centre S Ts g v))
      cell u v = cond_elim (λ (d : Delay). (d ≡ g u v) ⊎ ((d ≡ absent) × (g u v ≡ to_centre S Ts g u ⊕ from_centre S Ts g v))) (gone u v) absent (g u v)
          (λ t. inr (refl, (covers u v t).1)) (λ _. inl refl)

  cov : ℕ → ℕ → ℕ
  cov u v = cond (gone u v) 1 0

  cov_absent : (u v : ℕ) → g u v ≡ absent → cov u v ≡ 0
  unfolding cov
  cov_absent u v e = cond_elim (λ (x : ℕ). x ≡ 0) (gone u v) 1 0 (λ t. absurd (not-present (g u v) e (covers u v t).0)) (λ _. refl)

  cov_cell : (u v : ℕ) → u ≢ k → v ≢ k → bit (centred gone S Ts k g u v) + cov u v ≡ bit (g u v)
  unfolding cov
  cov_cell u v a b = rw (star_cell u v a b) (go (gone u v) (λ t. (covers u v t).0))
    where
      go : (c : Bool) → (T c → T (present (g u v))) → bit (cond c absent (g u v)) + cond c 1 0 ≡ bit (g u v)
      go true h = omega (arith, bit_absent {x = absent} refl, bit-present (g u v) (h tt))
      go false h = omega arith

  -- those that go, against those of the centre
  pub star_arcs : (N : ℕ) → k < N
      → arcs N (centred gone S Ts k g) + holding N gone ≡ arcs N g + (fan_in N (centred gone S Ts k g) k + fan_out N (centred gone S Ts k g) k)
  unfolding cov
  star_arcs N kN = starred_arcs g (centred gone S Ts k g) cov kN out in' star_loop (λ v. cov_absent k v (out v)) (λ u. cov_absent u k (in' u)) cov_cell

  -- an arc for each source and each target at most
  pub star_few : (N : ℕ) → fan_in N (centred gone S Ts k g) k + fan_out N (centred gone S Ts k g) k ≤ length S + length Ts
  unfolding fan_in fan_out to_centre from_centre
  star_few N = omega (
    arith,
    members N S,
    members N Ts,
    sum_le N (λ u. bit (centred gone S Ts k g u k)) (λ u. cond (member u S) 1 0) (λ u _. to u (ℕ_discrete u k)),
    sum_le N (λ v. bit (centred gone S Ts k g k v)) (λ v. cond (member v Ts) 1 0) (λ v _. rw (star_out v) (bit-cond (member v Ts) (g (first_of S) v))),
  )
    where
      to : (u : ℕ) → Dec (u ≡ k) → bit (centred gone S Ts k g u k) ≤ cond (member u S) 1 0
      to u (yes e) = omega (arith, bit_absent {x = centred gone S Ts k g u k} (rw e star_loop))
      to u (no n) = rw (star_in u n) (bit-cond (member u S) (least Ts (λ t. g u t ⊖ g (first_of S) t)))

  star_fewer : (N : ℕ) → k < N → length S + length Ts < holding N gone → arcs N (centred gone S Ts k g) < arcs N g
  star_fewer N kN more = omega (arith, star_arcs N kN, star_few N)

  pub centred_better : {m n N : ℕ} → Sound m n N g → T (each S (λ s. ltb s N)) → Inner m n N k → length S + length Ts < holding N gone → T (each S (λ s. fits delay_limit (to_centre S Ts g s)))
      → Better every_pair m n N g (centred gone S Ts k g)
  unfolding to_centre from_centre
  centred_better {m} {n} {N} s low hk more fit =
      better s legal (unshrunk_ranked (starred-shrunk starred_is) w' star_loop (rank_of s))
      (λ l' i j hi hj. unshrunk_same (starred-shrunk starred_is) w' star_loop (rank_of s) (longest_of s) l' i j (input_output s i j hi hj) (input_inner s i k hi hk) (output_inner s j k hj hk))
      (star_fewer N hk.1 more)
    where
      legal : (u v : ℕ) → T (present (centred gone S Ts k g u v)) → LegalArc m N u v (centred gone S Ts k g u v)
      legal u v = go (ℕ_discrete u k) (ℕ_discrete v k)
        where
          onward : T (present (from_centre S Ts g v)) → LegalArc m N k v (from_centre S Ts g v)
          onward = cond_elim (λ (d : Delay). T (present d) → LegalArc m N k v d) (member v Ts) (g (first_of S) v) absent
              (λ _ t. let a = s.legal (first_of S) v t in record { from_below = hk.1; to_below = a.to_below; not_input = a.not_input; in_range = a.in_range }) (λ _ t. absurd t)

          into : T (present (to_centre S Ts g u)) → LegalArc m N u k (to_centre S Ts g u)
          into t =
              let us = source t in
              record { from_below = ltb→lt u N (each_at S (λ s. ltb s N) low u us); to_below = hk.1; not_input = omega arith; in_range = each_at S (λ s. fits delay_limit (to_centre S Ts g s)) fit u us }
            where
              source : T (present (to_centre S Ts g u)) → T (member u S)
              source = cond_elim (λ (d : Delay). T (present d) → T (member u S)) (member u S) (least Ts (λ t. g u t ⊖ g (first_of S) t)) absent (λ b _. b) (λ _ t. absurd t)

          go : Dec (u ≡ k) → Dec (v ≡ k) → T (present (centred gone S Ts k g u v)) → LegalArc m N u v (centred gone S Ts k g u v)
          go (yes p) _ h = rw (p, star_out v) (onward (rw (p, star_out v) at h))
          go (no p) (yes q) h = rw (q, star_in u p) (into (rw (q, star_in u p) at h))
          go (no p) (no q) h = rw (star_cell u v p q)
              (cond_elim (λ (d : Delay). T (present d) → LegalArc m N u v d) (gone u v) absent (g u v) (λ _ t. absurd t) (λ _. s.legal u v) (rw (star_cell u v p q) at h))

      w' : Within N (centred gone S Ts k g)
      w' = record { in_range = λ u v h. ((legal u v h).from_below, (legal u v h).to_below) }

pub star_better : {m n N : ℕ} (S Ts : List ℕ) (k : ℕ) {g : Graph} (x : Unit {0}) → Sound m n N g → star_verdict m n N S Ts k g ≡ accepted x → Better every_pair m n N g (starred S Ts k g)
unfolding covered_arcs starred
star_better {m} {n} {N} S Ts k {g} x s q =
    let h = star_accepted m n N S Ts k g x q in
    centred_better S Ts k g (unused_out (sound_within s) k h.free) (unused_in (sound_within s) k h.free) (covered S Ts g) (λ _ _ t. t) s h.sources_below (inner_of m n N k h.inner) h.saved h.in_range
