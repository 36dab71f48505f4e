-- Deleting arcs that never decide. The law is for any pairs (i, j) that count: where each arc that decides for one of them stays, its greatest delay stays.
use mathlib.Core.Path.{◌≡◌, sym, ap, ◌∙◌, subst}
use mathlib.Core.Logic.{◌⊎◌, inl, inr}
use mathlib.Core.Bool.{Bool, ◌&&◌}
use mathlib.Core.List.{List, [], ◌∷◌}
use Prim.Native.Nat.{ℕ, ◌+◌, ◌-◌, ◌≤◌, ◌<◌}
use native.Mathlib.Omega.{arith}
use lib.Dec.{T, T_not}
use Rattle.laws.proofs.Booleans.{cond_elim, and_i, and_e}
use Rattle.graph.specs.Delay.{Delay, absent, present, immediate, ◌⊕◌, ◌⊑◌}
use Rattle.graph.specs.Graph.{Graph, path_delay, Acyclic, Longest, longest, walk}
use Rattle.graph.proofs.Delay.{absent_⊑, ⊑_refl, ⊑_trans, ⊑-antisym, ⊑-eq, ⊑-absent, none_r, ⊕-immediate, immediate-⊕, ⊕-assoc, ⊕-mono, ⊕-left, ⊕-right}
use Rattle.graph.proofs.Presence.{present-⊑, present_l, not-present, absent_or, same_i, same_e}
use Rattle.graph.proofs.Closure.{walk_same, walk_other, walk-⊒, walk_arc, path_walk, last_arc}
use Rattle.graph.proofs.Rank.{Ranked}
use Rattle.timing.specs.Refusal.{accepted}
use Rattle.timing.specs.Sound.{LegalArc, Sound}
use Rattle.reduction.proofs.Accepted.{prune_accepted}
use Rattle.reduction.proofs.Better.{Output, Same, Better, rank_of, longest_of, same}
use Rattle.laws.specs.Bounded.{some}
use Rattle.laws.proofs.Bounded.{some_at, some_of}
use Rattle.reduction.specs.Outcome.{every_pair}
use Rattle.reduction.specs.Prune.{decides, critical, thinned, pruned, prune_verdict}

-- the arc u→v with the greatest walks before and after it
abbrev pub through_arc : Graph → Graph → ℕ → ℕ → ℕ → ℕ → Delay
through_arc L g u v i j = walk L i u ⊕ (g u v ⊕ walk L v j)

pub record Thinned (Counts : ℕ → ℕ → Type 0) (L g g' : Graph) : Type 0 where
  pub less : (u v : ℕ) → g' u v ⊑ g u v
  pub kept : (u v i j : ℕ) → Counts i j → T (present (L i j)) → L i j ⊑ through_arc L g u v i j → g u v ⊑ g' u v

module _ {Counts : ℕ → ℕ → Type 0} {L g g' : Graph} (s : Thinned Counts L g g') where
  pub thinned_ranked : Ranked g → Ranked g'
  thinned_ranked r = record { rank = r.rank; rise = λ u v t. r.rise u v (present-⊑ (s.less u v) t) }

  less_path : (u : ℕ) (xs : List ℕ) (v : ℕ) → path_delay g' u xs v ⊑ path_delay g u xs v
  less_path u [] v = s.less u v
  less_path u (x ∷ xs) v = ⊕-mono (s.less u x) (less_path x xs v)

  module _ (a : Acyclic g) (l : Longest g L) (i j : ℕ) (c : Counts i j) (h : T (present (L i j))) where
    -- p is the delay of a walk from i to u that a path of the greatest delay begins with
    stays : (p : Delay) (u : ℕ) (xs : List ℕ) → p ⊑ walk L i u → L i j ⊑ p ⊕ path_delay g u xs j → L i j ⊑ p ⊕ path_delay g' u xs j
    stays p u [] q k = ⊑_trans k (⊕-left p (s.kept u j i j c h (⊑_trans k (⊕-mono q (⊑-eq (sym (ap (λ (t : Delay). g u j ⊕ t) (walk_same L j) ∙ ⊕-immediate (g u j))))))))
    stays p u (x ∷ xs) q k =
        let keep : g u x ⊑ g' u x = s.kept u x i j c h (⊑_trans k (⊕-mono q (⊕-left (g u x) (⊑_trans (l.bound x xs j) (walk-⊒ a l x j))))) in
        let ih : L i j ⊑ (p ⊕ g u x) ⊕ path_delay g' x xs j = stays (p ⊕ g u x) x xs (⊑_trans (⊕-right (g u x) q) (⊑_trans (walk_arc a l i u x) (walk-⊒ a l i x))) (rw (⊕-assoc p (g u x) (path_delay g x xs j)) k) in
        ⊑_trans ih (rw (⊕-assoc p (g u x) (path_delay g' x xs j)) (⊕-left p (⊕-right (path_delay g' x xs j) keep)))

    -- a path of the greatest delay stays whole
    pub path_stays : (xs : List ℕ) → L i j ⊑ path_delay g i xs j → L i j ⊑ path_delay g' i xs j
    path_stays xs k = rw (immediate-⊕ (path_delay g' i xs j)) at (stays immediate i xs (⊑-eq (sym (walk_same L i))) (rw immediate-⊕ k))

  pub thinned_same : {L' : Graph} → Acyclic g → Longest g L → Longest g' L' → (i j : ℕ) → Counts i j → L' i j ≡ L i j
  thinned_same {L'} a l l' i j c =
      ⊑-antisym (⊑_trans (⊑-eq (l'.reached i j).1) (⊑_trans (less_path i (l'.reached i j).0 j) (l.bound i (l'.reached i j).0 j))) (go (absent_or (L i j)))
    where
      xs : List ℕ
      xs = (l.reached i j).0

      go : (L i j ≡ absent) ⊎ T (present (L i j)) → L i j ⊑ L' i j
      go (inl e) = rw e (absent_⊑ (L' i j))
      go (inr t) = ⊑_trans (path_stays a l i j c t xs (⊑-eq (l.reached i j).1)) (l'.bound i xs j)

-- ---- the step

abbrev pub Counted : (ℕ → ℕ → Bool) → ℕ → ℕ → ℕ → ℕ → Type 0
Counted counts m n i j = (i < m) × Output m n j × T (counts i j)

-- no walk, arc and walk are longer than the greatest delay
pub through_⊑ : {L g : Graph} → Acyclic g → Longest g L → (u v i j : ℕ) → through_arc L g u v i j ⊑ L i j
through_⊑ {L} {g} a l u v i j = rw (← (⊕-assoc (walk L i u) (g u v) (walk L v j))) (⊑_trans (⊕-right (walk L v j) (walk_arc a l i u v)) (path_walk a l i v j))

module _ (counts : ℕ → ℕ → Bool) (m n N : ℕ) (g : Graph) (u v : ℕ) where
  pub critical_at : T (critical counts m n N g u v) → (i : ℕ) × (j : ℕ) × Counted counts m n i j × T (decides (longest g N) g u v i j)
  unfolding critical
  critical_at t =
      let a = some_at m (λ i. some n (λ j. counts i (m + j) && decides (longest g N) g u v i (m + j))) t in
      let b = some_at n (λ j. counts a.0 (m + j) && decides (longest g N) g u v a.0 (m + j)) a.2 in
      let c = and_e (counts a.0 (m + b.0)) (decides (longest g N) g u v a.0 (m + b.0)) b.2 in
      (a.0, m + b.0, (a.1, (omega arith, omega arith), c.0), c.1)

  critical_of : (i j : ℕ) → Counted counts m n i j → T (decides (longest g N) g u v i j) → T (critical counts m n N g u v)
  unfolding critical
  critical_of i j c t =
      some_of m (λ i. some n (λ j. counts i (m + j) && decides (longest g N) g u v i (m + j))) i c.0
      (some_of n (λ j. counts i (m + j) && decides (longest g N) g u v i (m + j)) (j - m) (omega arith)
      (subst (λ (x : ℕ). T (counts i x && decides (longest g N) g u v i x)) e (and_i (counts i j) (decides (longest g N) g u v i j) c.2 t)))
    where
      e : j ≡ m + (j - m)
      e = omega arith

-- an arc that reaches the greatest delay of a pair that counts
pub reaching_critical : (counts : ℕ → ℕ → Bool) {m n N : ℕ} {g : Graph} → Sound m n N g → (u v i j : ℕ) → Counted counts m n i j → T (present (longest g N i j))
    → longest g N i j ⊑ through_arc (longest g N) g u v i j → T (critical counts m n N g u v)
reaching_critical counts {m} {n} {N} {g} s u v i j c t h = critical_of counts m n N g u v i j c
    (same_i (longest g N i j) (through_arc (longest g N) g u v i j) t (⊑-antisym h (through_⊑ s.acyclic (longest_of s) u v i j)))

-- any arcs may go as long as those that decide stay
module _ (counts : ℕ → ℕ → Bool) {m n N : ℕ} {g : Graph} (s : Sound m n N g) (stays : ℕ → ℕ → Bool) (deciding : (u v : ℕ) → T (critical counts m n N g u v) → T (stays u v)) where
  pub thinned_is : Thinned (Counted counts m n) (longest g N) g (thinned stays g)
  thinned_is = record {
    less = λ u v. cond_elim (λ (d : Delay). d ⊑ g u v) (stays u v) (g u v) absent (λ _. ⊑_refl (g u v)) (λ _. absent_⊑ (g u v));
    kept = λ u v i j c t h. cond_elim (λ (d : Delay). g u v ⊑ d) (stays u v) (g u v) absent (λ _. ⊑_refl (g u v))
        (λ f. absurd (T_not (stays u v) f (deciding u v (reaching_critical counts s u v i j c t h))));
  }

  pub thinned_keeps : Same counts m n N g (thinned stays g)
  thinned_keeps = same s legal (thinned_ranked thinned_is (rank_of s)) (λ l' i j hi hj c. thinned_same thinned_is s.acyclic (longest_of s) l' i j (hi, hj, c))
    where
      legal : (u v : ℕ) → T (present (thinned stays g u v)) → LegalArc m N u v (thinned stays g u v)
      legal u v = cond_elim (λ (d : Delay). T (present d) → LegalArc m N u v d) (stays u v) (g u v) absent (λ _. s.legal u v) (λ _ k. absurd k)

pub prune_better : {m n N : ℕ} {g : Graph} → Sound m n N g → (x : Unit {0}) → prune_verdict m n N g ≡ accepted x → Better every_pair m n N g (pruned m n N g)
unfolding pruned
prune_better {m} {n} {N} {g} s x e = record { same = thinned_keeps every_pair s (critical every_pair m n N g) (λ _ _ t. t); fewer = prune_accepted m n N g x e }

-- an arc that leaves an inner vertex without arcs in never decides
pub undriven_idle : (counts : ℕ → ℕ → Bool) {m n N : ℕ} {g : Graph} → Sound m n N g → (u v : ℕ) → m ≤ u → ((x : ℕ) → g x u ≡ absent) → T (critical counts m n N g u v) → ⊥
undriven_idle counts {m} {n} {N} {g} s u v inner none t =
    let c = critical_at counts m n N g u v t in
    let i = c.0 in
    let j = c.1 in
    let d = same_e (longest g N i j) (through_arc (longest g N) g u v i j) c.3 in
    not-present (walk (longest g N) i u) (dark i c.2.0) (present_l (walk (longest g N) i u) (g u v ⊕ walk (longest g N) v j) (subst (λ (x : Delay). T (present x)) d.1 d.0))
  where
    reach : (i : ℕ) → (longest g N i u ⊑ g i u) ⊎ ((x : ℕ) × (longest g N i u ⊑ longest g N i x ⊕ g x u)) → longest g N i u ⊑ absent
    reach i (inl h) = ⊑_trans h (⊑-eq (none i))
    reach i (inr (x, h)) = ⊑_trans h (none_r (longest g N i x) (none x))

    dark : (i : ℕ) → i < m → walk (longest g N) i u ≡ absent
    dark i l = walk_other (longest g N) i u (λ e. omega arith) ∙ ⊑-absent (reach i (last_arc (longest_of s) i u))
