-- Prune is refused exactly on a lean graph, and leaves one. How an arc of a changed graph is seen to decide.
use mathlib.Core.Path.{◌≡◌, sym, ap, ◌∙◌, subst}
use mathlib.Core.Logic.{◌⊎◌, inl, inr}
use mathlib.Core.Bool.{Bool, true, false, not, ◌&&◌}
use mathlib.Core.List.{List, [], ◌∷◌, ◌++◌}
use Prim.Native.Nat.{ℕ, ◌<◌}
use native.Mathlib.Decide.{ℕ_discrete}
use native.Mathlib.Omega.{arith}
use lib.Dec.{T, T_not}
use Rattle.laws.specs.Bounded.{some}
use Rattle.laws.proofs.Booleans.{and_i, and_e, true_or-not, is_false, cond_elim}
use Rattle.laws.proofs.Bounded.{some_at, some_of}
use Rattle.graph.specs.Delay.{Delay, absent, present, ◌⊕◌, ◌⊑◌}
use Rattle.graph.specs.Graph.{Graph, path_delay, Longest, longest, walk}
use Rattle.graph.proofs.Delay.{⊑_trans, ⊑-eq, ⊕-immediate, immediate-⊕, ⊕-left, ⊕-right}
use Rattle.graph.proofs.Presence.{same_e}
use Rattle.graph.proofs.Longest.{path_append}
use Rattle.graph.proofs.Closure.{walk_same, walk_other, walk-⊒}
use Rattle.graph.proofs.FewerArcs.{fewer}
use Rattle.timing.specs.declared.Refusal.TheVariants.{NothingSaved}
use Rattle.timing.specs.Refusal.{Verdict, refused, accepted, number, require}
use Rattle.timing.specs.Sound.{Sound}
use Rattle.reduction.specs.Outcome.{every_pair}
use Rattle.reduction.specs.Prune.{critical, thinned, pruned, prune_verdict}
use Rattle.reduction.specs.Lean.{Lean}
use Rattle.reduction.proofs.Better.{Output, Same, longest_of}
use Rattle.reduction.proofs.Prune.{through_arc, path_stays, critical_at, reaching_critical, thinned_is, thinned_keeps}

-- ---- prune is refused exactly on a lean graph

abbrev verdict : Bool → Verdict (Unit {0})
verdict b = require b NothingSaved (accepted tt)

module _ (m n N : ℕ) (g : Graph) where
  abbrev idle : ℕ → ℕ → Bool
  idle u t = present (g u t) && not (critical every_pair m n N g u t)

  -- prune is accepted where some arc is idle
  by_idle : prune_verdict m n N g ≡ verdict (some N (λ u. some N (idle u)))
  unfolding prune_verdict pruned
  by_idle = ap verdict (sym (fewer N g (critical every_pair m n N g)))

module _ {m n N : ℕ} {g : Graph} where
  pub lean_refused : Lean m n N g → prune_verdict m n N g ≡ refused (number NothingSaved)
  lean_refused h = by_idle m n N g ∙ ap verdict (is_false (some N (λ u. some N (idle m n N g u))) none)
    where
      none : T (some N (λ u. some N (idle m n N g u))) → ⊥
      none t =
          let a = some_at N (λ u. some N (idle m n N g u)) t in
          let b = some_at N (idle m n N g a.0) a.2 in
          let c = and_e (present (g a.0 b.0)) (not (critical every_pair m n N g a.0 b.0)) b.2 in
          T_not (critical every_pair m n N g a.0 b.0) c.1 (h.deciding a.0 b.0 c.0)

  pub refused_lean : Sound m n N g → (r : ℕ) → prune_verdict m n N g ≡ refused r → Lean m n N g
  refused_lean s r e = record { deciding = λ u t h. go u t h (true_or-not (critical every_pair m n N g u t)) }
    where
      never : (b : Bool) → T b → verdict b ≡ refused r → ⊥
      never true _ z = let y : ◌≡◌ {A = ℕ} 0 1 = cc in omega arith
      never false t _ = t

      go : (u t : ℕ) → T (present (g u t)) → T (critical every_pair m n N g u t) ⊎ T (not (critical every_pair m n N g u t)) → T (critical every_pair m n N g u t)
      go u t h (inl c) = c
      go u t h (inr c) = absurd (never (some N (λ u. some N (idle m n N g u)))
          (some_of N (λ u. some N (idle m n N g u)) u (s.legal u t h).from_below
          (some_of N (idle m n N g u) t (s.legal u t h).to_below (and_i (present (g u t)) (not (critical every_pair m n N g u t)) h c)))
          (sym (by_idle m n N g) ∙ e))

-- ---- how an arc of a new graph decides

-- an input and an output that a path joins
pub record Joined (m n N : ℕ) (g : Graph) : Type 0 where
  pub input : ℕ
  pub output : ℕ
  pub is_input : input < m
  pub is_output : Output m n output
  pub there : T (present (longest g N input output))

module _ {m n N : ℕ} {g : Graph} where
  -- an arc that decides reaches the delay of a pair, with the greatest walks before and after it
  pub decided : (u t : ℕ) → T (critical every_pair m n N g u t) → (w : Joined m n N g) × (longest g N w.input w.output ⊑ through_arc (longest g N) g u t w.input w.output)
  decided u t h =
      let c = critical_at every_pair m n N g u t h in
      let e = same_e (longest g N c.0 c.1) (through_arc (longest g N) g u t c.0 c.1) c.3 in
      (record { input = c.0; output = c.1; is_input = c.2.0; is_output = c.2.1; there = e.0 }, ⊑-eq e.1)

  -- and an arc of a new graph that reaches the old delay decides, where the matrix is the same
  pub carried : {g' : Graph} → Same every_pair m n N g g' → (u t : ℕ) (w : Joined m n N g) → longest g N w.input w.output ⊑ through_arc (longest g' N) g' u t w.input w.output
      → T (critical every_pair m n N g' u t)
  carried {g'} b u t w h =
      let i = w.input in
      let j = w.output in
      let e : longest g' N i j ≡ longest g N i j = b.matrix i j w.is_input w.is_output tt in
      reaching_critical every_pair b.sound u t i j (w.is_input, w.is_output, tt) (subst (λ (d : Delay). T (present d)) (sym e) w.there) (⊑_trans (⊑-eq e) h)

-- ---- prune

-- all arcs of a path of delay M(i,j) stay, so that each decides again
pub pruned_lean : {m n N : ℕ} {g : Graph} → Sound m n N g → Lean m n N (pruned m n N g)
unfolding pruned
pruned_lean {m} {n} {N} {g} s = record { deciding = λ u t h. again u t (stayed u t h) }
  where
    stay : ℕ → ℕ → Bool
    stay = critical every_pair m n N g

    g' : Graph
    g' = thinned stay g

    D : Graph
    D = longest g N

    D' : Graph
    D' = longest g' N

    b : Same every_pair m n N g g'
    b = thinned_keeps every_pair s stay (λ _ _ t. t)

    l : Longest g D
    l = longest_of s

    l' : Longest g' D'
    l' = longest_of b.sound

    path_⊑ : (u : ℕ) (xs : List ℕ) (v : ℕ) → path_delay g' u xs v ⊑ walk D' u v
    path_⊑ u xs v = ⊑_trans (l'.bound u xs v) (walk-⊒ b.sound.acyclic l' u v)

    stayed : (u t : ℕ) → T (present (g' u t)) → T (stay u t)
    stayed u t = cond_elim (λ (d : Delay). T (present d) → T (stay u t)) (stay u t) (g u t) absent (λ k _. k) (λ _ k. absurd k)

    -- the arc u→t and a greatest walk from t to j, as a path
    beyond : (u t j : ℕ) → Dec (t ≡ j) → (ys : List ℕ) × (g u t ⊕ walk D t j ⊑ path_delay g u ys j) × (path_delay g' u ys j ⊑ g' u t ⊕ walk D' t j)
    beyond u t j (yes e) = rw e ([], ⊑-eq (ap (λ (d : Delay). g u j ⊕ d) (walk_same D j) ∙ ⊕-immediate (g u j)), ⊑-eq (sym (ap (λ (d : Delay). g' u j ⊕ d) (walk_same D' j) ∙ ⊕-immediate (g' u j))))
    beyond u t j (no n) = let p = l.reached t j in (t ∷ p.0, ⊕-left (g u t) (⊑-eq (walk_other D t j n ∙ p.1)), ⊕-left (g' u t) (path_⊑ t p.0 j))

    -- a greatest walk from i to u and a path from there, as one path
    before : (i u : ℕ) (ys : List ℕ) (j : ℕ) → Dec (i ≡ u) → (zs : List ℕ) × (walk D i u ⊕ path_delay g u ys j ⊑ path_delay g i zs j) × (path_delay g' i zs j ⊑ walk D' i u ⊕ path_delay g' u ys j)
    before i u ys j (yes e) = rw e (
      ys,
      ⊑-eq (ap (λ (d : Delay). d ⊕ path_delay g u ys j) (walk_same D u) ∙ immediate-⊕ (path_delay g u ys j)),
      ⊑-eq (sym (ap (λ (d : Delay). d ⊕ path_delay g' u ys j) (walk_same D' u) ∙ immediate-⊕ (path_delay g' u ys j))),
    )
    before i u ys j (no n) =
        let p = l.reached i u in (
          p.0 ++ u ∷ ys,
          ⊑-eq (ap (λ (d : Delay). d ⊕ path_delay g u ys j) (walk_other D i u n ∙ p.1) ∙ sym (path_append g i p.0 u ys j)),
          ⊑_trans (⊑-eq (path_append g' i p.0 u ys j)) (⊕-right (path_delay g' u ys j) (path_⊑ i p.0 u)),
        )

    again : (u t : ℕ) → T (stay u t) → T (critical every_pair m n N g' u t)
    again u t h =
        let w = decided u t h in
        let i = w.0.input in
        let j = w.0.output in
        let y = beyond u t j (ℕ_discrete t j) in
        let z = before i u y.0 j (ℕ_discrete i u) in
        carried b u t w.0 (⊑_trans (path_stays (thinned_is every_pair s stay (λ _ _ t. t)) s.acyclic l i j (w.0.is_input, w.0.is_output, tt) w.0.there z.0
        (⊑_trans w.1 (⊑_trans (⊕-left (walk D i u) y.1) z.1))) (⊑_trans z.2 (⊕-left (walk D' i u) y.2)))
