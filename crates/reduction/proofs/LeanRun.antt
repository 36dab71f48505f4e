-- Lean tables in a run: prune leaves one and is refused on one; shrink, merge back and star keep one. So prune need not be tried again before a share is accepted.
use Rattle.std.specs.Prelude.{Option, None, Some}
use mathlib.Core.Path.{◌≡◌, refl, sym, ap, ◌∙◌, subst}
use mathlib.Core.Bool.{Bool, true, false}
use mathlib.Core.List.{List, [], ◌∷◌, map}
use Prim.Native.Nat.{ℕ}
use native.Mathlib.Omega.{arith}
use lib.Dec.{T}
use lib.IntN.{ℤ}
use Rattle.graph.specs.Graph.{Graph}
use Rattle.timing.specs.declared.Refusal.TheVariants.{NothingSaved}
use Rattle.timing.specs.Refusal.{Verdict, refused, accepted, number, ◌then◌}
use Rattle.timing.specs.Table.{graph_of}
use Rattle.timing.specs.Checks.{scratch_fits}
use Rattle.timing.specs.Sound.{Sound}
use Rattle.timing.proofs.Verdict.{then_accepted, same_accepted}
use Rattle.timing.proofs.Checks.{Passed, checked-passed}
use Rattle.reduction.specs.Outcome.{Reduced, one_step}
use Rattle.reduction.specs.Shrink.{shrink_verdict}
use Rattle.reduction.specs.MergeBack.{merge_back_verdict}
use Rattle.reduction.specs.Star.{star_verdict}
use Rattle.reduction.specs.Prune.{pruned, prune_verdict}
use Rattle.reduction.specs.Steps.{Step, shrink, share_inputs, share_outputs, prune, merge_back, star, plan, step_on, step_call}
use Rattle.reduction.specs.FindStar.{Found, find_star, star_of}
use Rattle.reduction.specs.Run.{Progress, Attempt, skipped, tried, Try, attempt, round, try_step, try_found, try_star}
use Rattle.reduction.specs.Lean.{Lean, LeanTable}
use Rattle.reduction.proofs.Steps.{plan_better}
use Rattle.reduction.proofs.Kept.{put_back, step_parts, step_accepted}
use Rattle.reduction.proofs.Rounds.{All}
use Rattle.reduction.proofs.Run.{all_map, untried}
use Rattle.reduction.proofs.Lean.{lean_refused, refused_lean, pruned_lean}
use Rattle.reduction.proofs.LeanSteps.{shrunk_lean, merged_lean}
use Rattle.reduction.proofs.StarArcs.{starred_lean}

-- the steps that keep a lean table lean
abbrev pub keeps_lean : Step → Bool
keeps_lean (shrink k) = true
keeps_lean (share_inputs a b k) = false
keeps_lean (share_outputs a b) = false
keeps_lean prune = false
keeps_lean (merge_back o) = true
keeps_lean (star S Ts k) = true

abbrev pub AllKeep : List Step → Type 0
AllKeep [] = Unit {0}
AllKeep (q ∷ qs) = T (keeps_lean q) × AllKeep qs

module _ (m n N : ℕ) where
  -- ---- prune on a lean table

  pub prune_refused : (s : ℕ) (t : List ℤ) → Passed m n N t → T (scratch_fits N s) → LeanTable m n N t → step_call m n N s prune t ≡ refused (number NothingSaved)
  unfolding step_call plan
  prune_refused s t p room h =
      ap (λ (x : Verdict Graph). x then step_on m n N prune t) (checked-passed s p room)
      ∙ ap (λ (x : Verdict (Unit {0})). x then (λ _. accepted (pruned m n N (graph_of N t))) then λ g'. accepted (one_step N t g')) (lean_refused h)

  -- on a table that does not pass, or with a short scratch, the checks refuse it
  pub prune_idle : (s : ℕ) (p : Progress) → LeanTable m n N p.table → round (try_step m n N s prune ∷ []) p ≡ p
  unfolding round plan
  prune_idle s p h = go (step_call m n N s prune p.table) refl
    where
      never : (x : Unit {0}) → refused (number NothingSaved) ≡ accepted x → ⊥
      never x z = let y : ◌≡◌ {A = ℕ} 0 1 = cc in omega arith

      go : (x : Verdict Reduced) → step_call m n N s prune p.table ≡ x → attempt (tried x) p ≡ p
      go (refused r) e = refl
      go (accepted r) e =
          let b = step_parts m n N s prune p.table r e in
          let v = then_accepted (prune_verdict m n N (graph_of N p.table)) _ b.1 b.2 in
          absurd (never v.0 (sym (lean_refused h) ∙ v.1))

  -- ---- accepted steps

  -- the table of an accepted step is lean if its graph is
  lean_step : (s : ℕ) (q : Step) (t : List ℤ) (r : Reduced) → step_call m n N s q t ≡ accepted r → ((g' : Graph) → Sound m n N (graph_of N t) → plan m n N q (graph_of N t) ≡ accepted g' → Lean m n N g')
      → LeanTable m n N r.table
  lean_step s q t r e f =
      let p = step_parts m n N s q t r e in
      subst (λ (x : Reduced). LeanTable m n N x.table) p.3
      (subst (Lean m n N) (sym (put_back m n N t p.1 (plan_better p.0.sound q p.1 p.2))) (f p.1 p.0.sound p.2))

  pub prune_leaves : (s : ℕ) (p : Progress) → Passed m n N p.table → T (scratch_fits N s) → LeanTable m n N (round (try_step m n N s prune ∷ []) p).table
  unfolding round plan
  prune_leaves s p good room = go (step_call m n N s prune t) refl
    where
      t : List ℤ
      t = p.table

      -- where the call is refused, so is the verdict
      unmoved : (r : ℕ) → step_call m n N s prune t ≡ refused r → (x : Verdict (Unit {0})) → prune_verdict m n N (graph_of N t) ≡ x → LeanTable m n N t
      unmoved r e (refused k) v = refused_lean good.sound k v
      unmoved r e (accepted k) v =
          let a = step_accepted m n N s prune t (pruned m n N (graph_of N t)) good room (ap (λ (x : Verdict (Unit {0})). x then λ _. accepted (pruned m n N (graph_of N t))) v) in
          absurd (let y : ◌≡◌ {A = ℕ} 0 1 = cc in omega arith)

      go : (x : Verdict Reduced) → step_call m n N s prune t ≡ x → LeanTable m n N (attempt (tried x) p).table
      go (refused r) e = unmoved r e (prune_verdict m n N (graph_of N t)) refl
      go (accepted r) e = lean_step s prune t r e (λ g' sound b. subst (Lean m n N) (same_accepted (then_accepted (prune_verdict m n N (graph_of N t)) _ g' b).2) (pruned_lean sound))

  -- ---- what is accepted on a lean table leaves one

  plan_lean : (q : Step) → T (keeps_lean q) → (g g' : Graph) → Sound m n N g → plan m n N q g ≡ accepted g' → Lean m n N g → Lean m n N g'
  unfolding plan
  plan_lean (shrink k) _ g g' s e h = let p = then_accepted (shrink_verdict m n N k g) _ g' e in subst (Lean m n N) (same_accepted p.2) (shrunk_lean k p.0 s p.1 h)
  plan_lean (share_inputs a b k) f g g' s e h = absurd f
  plan_lean (share_outputs a b) f g g' s e h = absurd f
  plan_lean prune f g g' s e h = absurd f
  plan_lean (merge_back o) _ g g' s e h = let p = then_accepted (merge_back_verdict m n N o g) _ g' e in subst (Lean m n N) (same_accepted p.2) (merged_lean o p.0 s p.1 h)
  plan_lean (star S Ts k) _ g g' s e h = let p = then_accepted (star_verdict m n N S Ts k g) _ g' e in subst (Lean m n N) (same_accepted p.2) (starred_lean S Ts k p.0 s p.1 h)

  abbrev pub StaysLean : Try → Type 0
  StaysLean q = (t : List ℤ) (r : Reduced) → q t ≡ tried (accepted r) → LeanTable m n N t → LeanTable m n N r.table

  pub step-stays_lean : (s : ℕ) (q : Step) → T (keeps_lean q) → StaysLean (try_step m n N s q)
  step-stays_lean s q f t r e h = lean_step s q t r (inside (step_call m n N s q t) e) (λ g' sound b. plan_lean q f (graph_of N t) g' sound b h)
    where
      inside : (x : Verdict Reduced) → tried x ≡ tried (accepted r) → x ≡ accepted r
      inside x z = cc

  -- ---- a round of them

  pub round_lean : (qs : List Try) (p : Progress) → All StaysLean qs → LeanTable m n N p.table → LeanTable m n N (round qs p).table
  unfolding round
  round_lean [] p a h = h
  round_lean (q ∷ qs) p a h = round_lean qs (attempt (q p.table) p) a.1 (go (q p.table) refl)
    where
      go : (x : Attempt) → q p.table ≡ x → LeanTable m n N (attempt x p).table
      go skipped e = h
      go (tried (refused r)) e = h
      go (tried (accepted r)) e = a.0 p.table r e h

  module _ (s : ℕ) where
    pub steps_lean : (qs : List Step) (p : Progress) → AllKeep qs → LeanTable m n N p.table → LeanTable m n N (round (map (try_step m n N s) qs) p).table
    steps_lean qs p a h = round_lean (map (try_step m n N s) qs) p (each qs a) h
      where
        each : (qs : List Step) → AllKeep qs → All StaysLean (map (try_step m n N s) qs)
        each [] _ = tt
        each (q ∷ qs) b = (step-stays_lean s q b.0, each qs b.1)

    -- the run's two lists
    pub shrinks_lean : (xs : List ℕ) (p : Progress) → LeanTable m n N p.table → LeanTable m n N (round (map (λ k. try_step m n N s (shrink k)) xs) p).table
    shrinks_lean xs p h = round_lean (map (λ k. try_step m n N s (shrink k)) xs) p (all_map StaysLean (λ k. try_step m n N s (shrink k)) xs (λ k. step-stays_lean s (shrink k) tt)) h

    pub merges_lean : (xs : List ℕ) (p : Progress) → LeanTable m n N p.table → LeanTable m n N (round (map (λ o. try_step m n N s (merge_back o)) xs) p).table
    merges_lean xs p h = round_lean (map (λ o. try_step m n N s (merge_back o)) xs) p (all_map StaysLean (λ o. try_step m n N s (merge_back o)) xs (λ o. step-stays_lean s (merge_back o) tt)) h

    -- and the star that is found
    pub found_lean : (p : Progress) → LeanTable m n N p.table → LeanTable m n N (round (try_star m n N s ∷ []) p).table
    unfolding try_star
    found_lean p h = round_lean (try_star m n N s ∷ []) p (λ t r. go t r (find_star m n N (graph_of N t)), tt) h
      where
        go : (t : List ℤ) (r : Reduced) (x : Option Found) → try_found m n N s t x ≡ tried (accepted r) → LeanTable m n N t → LeanTable m n N r.table
        go t r None e = λ _. absurd (untried m n N r e)
        go t r (Some x) e = step-stays_lean s (star_of m n N (graph_of N t) x.vertex) tt t r e
