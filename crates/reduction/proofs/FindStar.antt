-- The finder: what it answers is the best candidate, and that candidate's star takes the arcs that it saves.
use Rattle.std.specs.Option.{MatchOption}
use Rattle.std.specs.Prelude.{Option, Some, None}
use mathlib.Core.Path.{◌≡◌, refl, sym, subst}
use mathlib.Core.Logic.{◌⊎◌, inl, inr}
use mathlib.Core.Bool.{Bool, true, false, not, cond, ◌&&◌}
use mathlib.Core.List.{List, [], ◌∷◌, ◌++◌}
use Prim.Native.Nat.{ℕ, zero, suc, ◌+◌, ◌-◌, ◌≤◌, ◌<◌}
use native.Mathlib.Nat.{not-suc-le-zero}
use native.Mathlib.Decide.{dec_lt}
use native.Mathlib.Omega.{arith}
use lib.Dec.{T, T_not, not_T, leb, eqb, ltb, ltb→lt, lt→ltb, le→leb, eqb_refl}
use lib.ListN.{length}
use Rattle.laws.specs.Bounded.{first, those, member, each}
use Rattle.laws.proofs.Booleans.{and_i, and_e, or_l, or_r, cond_elim}
use Rattle.laws.proofs.Bounded.{below_suc, first_holds, each_at}
use Rattle.laws.proofs.Those.{member_more, those_at, each_those}
use Rattle.graph.specs.Delay.{present}
use Rattle.graph.specs.Graph.{Graph}
use Rattle.timing.specs.declared.Refusal.TheVariants.{WrongVertex, WrongSet, NumberTaken, WrongArcs, NothingSaved, DelayOutOfRange}
use Rattle.timing.specs.Limits.{delay_limit, fits}
use Rattle.timing.specs.Refusal.{Verdict, accepted, is_accepted, require}
use Rattle.timing.proofs.Verdict.{is_accepted_lem}
use Rattle.reduction.specs.Outcome.{is_inner, unused, fresh_number}
use Rattle.reduction.specs.Star.{non_empty, distinct, to_centre, covered_arcs, star_verdict}
use Rattle.reduction.specs.FindStar.{targets_of, is_other_source, sources_of, saving_of, Found, saved_by, is_candidate, best_below, find_star}
use Rattle.reduction.specs.FindStarMeaning.{Best, FindStarMeaning, SavingMeaning}
use Rattle.reduction.proofs.Accepted.{StarAccepted, star_accepted}
use Rattle.reduction.proofs.Star.{first_member}
use Rattle.reduction.proofs.StarArcs.{star_takes}

-- ---- S(a) and T(a)

distinct_last : (xs : List ℕ) (y : ℕ) → T (distinct xs) → (T (member y xs) → ⊥) → T (distinct (xs ++ (y ∷ [])))
unfolding member
distinct_last [] y d out = tt
distinct_last (x ∷ xs) y d out =
    let p = and_e (not (member x xs)) (distinct xs) d in
    and_i (not (member x (xs ++ (y ∷ [])))) (distinct (xs ++ (y ∷ [])))
    (not_T (member x (xs ++ (y ∷ []))) (λ m. go p.0 (member_more x xs y m)))
    (distinct_last xs y p.1 (λ m. out (or_r (eqb y x) (member y xs) m)))
  where
    go : T (not (member x xs)) → T (member x xs) ⊎ (x ≡ y) → ⊥
    go a (inl m) = T_not (member x xs) a m
    go a (inr e) = out (or_l (eqb y x) (member y xs) (subst (λ (z : ℕ). T (eqb z x)) e (eqb_refl x)))

pub those_distinct : (f : ℕ → Bool) (n : ℕ) → T (distinct (those n f))
unfolding those
those_distinct f zero = tt
those_distinct f (suc n) = cond_elim (λ (xs : List ℕ). T (distinct xs)) (f n) (those n f ++ (n ∷ [])) (those n f)
    (λ _. distinct_last (those n f) n (those_distinct f n) (λ m. let p = those_at f n n m in omega (arith, p.0))) (λ _. those_distinct f n)

module _ (N : ℕ) (g : Graph) (a : ℕ) where
  pub targets_below : T (each (targets_of N g a) (λ t. ltb t N))
  unfolding targets_of
  targets_below = each_those (λ t. present (g a t)) N (λ t. ltb t N) (λ t l _. lt→ltb t N l)

  pub targets_distinct : T (distinct (targets_of N g a))
  unfolding targets_of
  targets_distinct = those_distinct (λ t. present (g a t)) N

  pub sources_some : T (non_empty (sources_of N g a))
  unfolding sources_of
  sources_some = tt

  sources_head : T (member a (sources_of N g a))
  unfolding sources_of member
  sources_head = first_member (a ∷ those N (is_other_source N g a)) tt

  pub sources_below : a < N → T (each (sources_of N g a) (λ s. ltb s N))
  unfolding sources_of each
  sources_below l = and_i (ltb a N) (each (those N (is_other_source N g a)) (λ s. ltb s N)) (lt→ltb a N l) (each_those (is_other_source N g a) N (λ s. ltb s N) (λ s k _. lt→ltb s N k))

  pub sources_distinct : T (distinct (sources_of N g a))
  unfolding sources_of
  sources_distinct = and_i (not (member a (those N (is_other_source N g a)))) (distinct (those N (is_other_source N g a)))
      (not_T (member a (those N (is_other_source N g a))) (λ m. let p = those_at (is_other_source N g a) N a m in
      T_not (eqb a a) (and_e (not (eqb a a)) (each (targets_of N g a) (λ t. present (g a t))) p.1).0 (eqb_refl a)))
      (those_distinct (is_other_source N g a) N)

  pub sources_joined : T (each (sources_of N g a) (λ s. each (targets_of N g a) (λ t. present (g s t))))
  unfolding sources_of targets_of each
  sources_joined = and_i (each (targets_of N g a) (λ t. present (g a t))) (each (those N (is_other_source N g a)) (λ s. each (targets_of N g a) (λ t. present (g s t))))
      (each_those (λ t. present (g a t)) N (λ t. present (g a t)) (λ t _ h. h))
      (each_those (is_other_source N g a) N (λ s. each (targets_of N g a) (λ t. present (g s t))) (λ s _ h. (and_e (not (eqb s a)) (each (targets_of N g a) (λ t. present (g s t))) h).1))

-- ---- candidates

module _ (m n N : ℕ) (g : Graph) where
  -- where some number is free, it is an inner vertex that no arc touches
  pub fresh_free : fresh_number m n N g < N → T (is_inner m n N (fresh_number m n N g)) × T (unused N g (fresh_number m n N g))
  unfolding fresh_number
  fresh_free l =
      let k = m + n + first (N - (m + n)) (λ x. unused N g (m + n + x)) in
      (and_i (leb (m + n) k) (ltb k N) (le→leb (m + n) k (omega arith)) (lt→ltb k N l), first_holds (N - (m + n)) (λ x. unused N g (m + n + x)) (omega (arith, l)))

  module _ (a : ℕ) where
    abbrev S : List ℕ
    S = sources_of N g a

    abbrev Ts : List ℕ
    Ts = targets_of N g a

    -- of star's conditions the last two are left to ask
    pub candidate_by : a < N → T (non_empty (targets_of N g a)) → fresh_number m n N g < N
        → is_candidate m n N g a ≡ (ltb (length (sources_of N g a) + length (targets_of N g a)) (covered_arcs N (sources_of N g a) (targets_of N g a) g) && each (sources_of N g a) (λ s. fits delay_limit (to_centre (sources_of N g a) (targets_of N g a) g s)))
    unfolding is_candidate star_verdict
    candidate_by l out free =
        let k = fresh_number m n N g in
        let f = fresh_free free in
        by (each S (λ s. ltb s N) && each Ts (λ t. ltb t N) && ltb k N) (non_empty S && non_empty Ts && distinct S && distinct Ts) (is_inner m n N k && unused N g k) (each S (λ s. each Ts (λ t. present (g s t))))
        (ltb (length S + length Ts) (covered_arcs N S Ts g)) (each S (λ s. fits delay_limit (to_centre S Ts g s)))
        (and_i (each S (λ s. ltb s N) && each Ts (λ t. ltb t N)) (ltb k N) (and_i (each S (λ s. ltb s N)) (each Ts (λ t. ltb t N)) (sources_below N g a l) (targets_below N g a)) (lt→ltb k N free))
        (and_i (non_empty S && non_empty Ts && distinct S) (distinct Ts) (and_i (non_empty S && non_empty Ts) (distinct S) (and_i (non_empty S) (non_empty Ts) (sources_some N g a) out) (sources_distinct N g a)) (targets_distinct N g a))
        (and_i (is_inner m n N k) (unused N g k) f.0 f.1)
        (sources_joined N g a)
      where
        by : (b7 b9 b8 b10 b13 b14 : Bool) → T b7 → T b9 → T b8 → T b10
            → is_accepted {A = Unit {0}} (require b7 WrongVertex (require b9 WrongSet (require b8 NumberTaken (require b10 WrongArcs (require b13 NothingSaved (require b14 DelayOutOfRange (accepted tt))))))) ≡ (b13 && b14)
        by true true true true true true _ _ _ _ = refl
        by true true true true true false _ _ _ _ = refl
        by true true true true false b14 _ _ _ _ = refl
        by false b9 b8 b10 b13 b14 t _ _ _ = absurd t
        by true false b8 b10 b13 b14 _ t _ _ = absurd t
        by true true false b10 b13 b14 _ _ t _ = absurd t
        by true true true false b13 b14 _ _ _ t = absurd t

    -- what star's acceptance says
    pub candidate_accepted : T (is_candidate m n N g a) → StarAccepted m n N (sources_of N g a) (targets_of N g a) (fresh_number m n N g) g
    unfolding is_candidate
    candidate_accepted t =
        let v = is_accepted_lem (star_verdict m n N S Ts (fresh_number m n N g) g) t in
        star_accepted m n N S Ts (fresh_number m n N g) g v.0 v.1

    pub candidate_saves : T (is_candidate m n N g a) → 0 < saving_of N g a
    unfolding saving_of
    candidate_saves t = omega (arith, (candidate_accepted t).saved)

    candidate_below : T (is_candidate m n N g a) → a < N
    candidate_below t = ltb→lt a N (each_at S (λ s. ltb s N) (candidate_accepted t).sources_below a (sources_head N g a))

  -- ---- the best

  record BestBelow (c : ℕ) (f : Found) : Type 0 where
    below : f.vertex < c
    candidate : T (is_candidate m n N g f.vertex)
    saving : f.saving ≡ saving_of N g f.vertex
    most : (a : ℕ) → a < c → T (is_candidate m n N g a) → saving_of N g a ≤ f.saving
    smaller : (a : ℕ) → T (is_candidate m n N g a) → a < f.vertex → saving_of N g a < f.saving

  abbrev NoneBelow : ℕ → Type 0
  NoneBelow c = (a : ℕ) → a < c → T (not (is_candidate m n N g a))

  best_is : (c : ℕ) → MatchOption (best_below m n N g c) (NoneBelow c) (BestBelow c)
  unfolding best_below
  best_is zero = λ a l. absurd (not-suc-le-zero l)
  best_is (suc c) = go (best_below m n N g c) (best_is c)
    where
      here : ℕ
      here = saving_of N g c

      go : (f : Option Found) → MatchOption f (NoneBelow c) (BestBelow c)
          → MatchOption (cond (is_candidate m n N g c && ltb (saved_by f) (saving_of N g c)) (Some (record { vertex = c; saving = saving_of N g c })) f) (NoneBelow (suc c)) (BestBelow (suc c))
      go f h = cond_elim (λ (r : Option Found). MatchOption r (NoneBelow (suc c)) (BestBelow (suc c))) (is_candidate m n N g c && ltb (saved_by f) (saving_of N g c)) (Some (record { vertex = c; saving = saving_of N g c })) f
          (λ t. let p = and_e (is_candidate m n N g c) (ltb (saved_by f) (saving_of N g c)) t in takes f h p.0 (ltb→lt (saved_by f) (saving_of N g c) p.1))
          (λ t. leaves f h (λ k l. T_not (is_candidate m n N g c && ltb (saved_by f) (saving_of N g c)) t (and_i (is_candidate m n N g c) (ltb (saved_by f) (saving_of N g c)) k (lt→ltb (saved_by f) (saving_of N g c) l))))
        where
          less : (f : Option Found) → MatchOption f (NoneBelow c) (BestBelow c) → (a : ℕ) → a < c → T (is_candidate m n N g a) → saving_of N g a ≤ saved_by f
          less None h a l k = absurd (T_not (is_candidate m n N g a) (h a l) k)
          less (Some f) h a l k = h.most a l k

          takes : (f : Option Found) → MatchOption f (NoneBelow c) (BestBelow c) → T (is_candidate m n N g c) → saved_by f < saving_of N g c → BestBelow (suc c) (record { vertex = c; saving = saving_of N g c })
          takes f h k more = record {
            below = omega arith;
            candidate = k;
            saving = refl;
            most = λ a l j. below_suc (λ (a : ℕ). T (is_candidate m n N g a) → saving_of N g a ≤ saving_of N g c) c (λ a l j. omega (arith, less f h a l j)) (λ _. omega arith) a l j;
            smaller = λ a j l. omega (arith, less f h a l j);
          }

          leaves : (f : Option Found) → MatchOption f (NoneBelow c) (BestBelow c) → (T (is_candidate m n N g c) → saved_by f < saving_of N g c → ⊥) → MatchOption f (NoneBelow (suc c)) (BestBelow (suc c))
          leaves None h out = below_suc (λ (a : ℕ). T (not (is_candidate m n N g a))) c h (not_T (is_candidate m n N g c) (λ k. out k (candidate_saves c k)))
          leaves (Some f) h out = record {
            below = omega (arith, h.below);
            candidate = h.candidate;
            saving = h.saving;
            most = λ a l k. below_suc (λ (a : ℕ). T (is_candidate m n N g a) → saving_of N g a ≤ f.saving) c h.most (λ k. by k) a l k;
            smaller = h.smaller;
          }
            where
              by : T (is_candidate m n N g c) → saving_of N g c ≤ f.saving
              by k = pick (dec_lt f.saving (saving_of N g c))
                where
                  pick : Dec (f.saving < saving_of N g c) → saving_of N g c ≤ f.saving
                  pick (yes l) = absurd (out k l)
                  pick (no l) = omega arith

pub find_star_meaning : FindStarMeaning
unfolding find_star
find_star_meaning m n N g = go (best_below m n N g N) (best_is m n N g N)
  where
    go : (f : Option Found) → MatchOption f (NoneBelow m n N g N) (BestBelow m n N g N) → MatchOption f ((a : ℕ) → T (not (is_candidate m n N g a))) (Best m n N g)
    go None h = λ a. not_T (is_candidate m n N g a) (λ k. T_not (is_candidate m n N g a) (h a (candidate_below m n N g a k)) k)
    go (Some f) h = record { candidate = h.candidate; saving = h.saving; most = λ a k. h.most a (candidate_below m n N g a k) k; smaller = h.smaller }

-- the star that is found is accepted
pub found_accepted : (m n N : ℕ) (g : Graph) (f : Found) → find_star m n N g ≡ Some f
    → star_verdict m n N (sources_of N g f.vertex) (targets_of N g f.vertex) (fresh_number m n N g) g ≡ accepted tt
unfolding is_candidate
found_accepted m n N g f e =
    let best = subst (λ (x : Option Found). MatchOption x ((a : ℕ) → T (not (is_candidate m n N g a))) (Best m n N g)) e (find_star_meaning m n N g) in
    (is_accepted_lem (star_verdict m n N (sources_of N g f.vertex) (targets_of N g f.vertex) (fresh_number m n N g) g) best.candidate).1

pub found_below : (m n N : ℕ) (g : Graph) (f : Found) → find_star m n N g ≡ Some f → f.vertex < N
unfolding is_candidate
found_below m n N g f e = candidate_below m n N g f.vertex (subst (λ (x : Verdict (Unit {0})). T (is_accepted x)) (sym (found_accepted m n N g f e)) tt)

-- where no number is free there is no centre
pub none_free : (m n N : ℕ) (g : Graph) → N ≤ fresh_number m n N g → find_star m n N g ≡ None
none_free m n N g full = go (find_star m n N g) refl
  where
    go : (x : Option Found) → find_star m n N g ≡ x → x ≡ None
    go None e = refl
    go (Some f) e =
        let h = star_accepted m n N _ _ (fresh_number m n N g) g tt (found_accepted m n N g f e) in
        absurd (omega (arith, full, ltb→lt (fresh_number m n N g) N (and_e (leb (m + n) (fresh_number m n N g)) (ltb (fresh_number m n N g) N) h.inner).1))

pub saving_meaning : SavingMeaning
unfolding is_candidate saving_of
saving_meaning m n N g s a t =
    let S = sources_of N g a in
    let Ts = targets_of N g a in
    let k = fresh_number m n N g in
    let v = is_accepted_lem (star_verdict m n N S Ts k g) t in
    let h = candidate_accepted m n N g a t in
    record { some = candidate_saves m n N g a t; all = omega (arith, h.saved, star_takes S Ts k v.0 s v.1) }
