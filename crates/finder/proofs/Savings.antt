-- A vertex's star: its lists are a bundle, and which stars are offered.
use Rattle.std.specs.Prelude.{Some, None}
use mathlib.Core.Path.{◌≡◌, refl, sym, ap, ◌∙◌, subst}
use mathlib.Core.Bool.{Bool, true, false, cond}
use mathlib.Core.List.{List, [], ◌∷◌}
use Prim.Native.Nat.{ℕ, ◌+◌, ◌-◌, ◌*◌, ◌≤◌, ◌<◌}
use native.Mathlib.Nat.{one-mul}
use native.Mathlib.Omega.{arith}
use lib.Dec.{T, ltb, ltb→lt, lt→ltb}
use lib.IntN.{ℤ}
use lib.ListN.{length}
use Rattle.laws.specs.Bounded.{those, member, each}
use Rattle.laws.proofs.Booleans.{is_true, is_false, and_i}
use Rattle.laws.proofs.Those.{those_at, those_of}
use Rattle.laws.proofs.Truth.{both, no_first, no_second}
use Rattle.graph.specs.Delay.{present}
use Rattle.graph.specs.Graph.{Graph}
use Rattle.graph.proofs.Longest.{Within}
use Rattle.timing.specs.Limits.{delay_limit, fits}
use Rattle.reduction.specs.Star.{non_empty, first_of, to_centre, covered_arcs}
use Rattle.reduction.specs.FindStar.{targets_of, is_other_source, sources_of, saving_of, is_candidate}
use Rattle.reduction.proofs.FindStar.{sources_some, sources_below, sources_distinct, sources_joined, targets_below, targets_distinct, candidate_by, candidate_accepted}
use Rattle.reduction.proofs.Star.{first_member}
use Rattle.paths.specs.declared.board.Board.{Board}
use Rattle.paths.specs.Board.{graph_in}
use Rattle.plans.specs.OnBoards.{fresh_on}
use Rattle.sets.specs.declared.Set.{Set}
use Rattle.sets.specs.Sets.{holds}
use Rattle.reach.specs.RowSets.{Targets}
use Rattle.stars.specs.StarReady.{below, Bundle}
use Rattle.stars.specs.StarOn.{centre_fits}
use Rattle.stars.proofs.CentreCells.{covered_few}
use Rattle.finder.specs.Finding.{OthersOf, offered_on}

some_of_member : (xs : List ℕ) (x : ℕ) → T (member x xs) → T (non_empty xs)
unfolding member
some_of_member [] x m = m
some_of_member (y ∷ ys) x m = tt

no_members : (xs : List ℕ) → (T (non_empty xs) → ⊥) → length xs ≡ 0
no_members [] h = refl
no_members (x ∷ xs) h = absurd (h tt)

module _ {N : ℕ} {g : Graph} {a : ℕ} (l : a < N) where
  -- a row with a member gives a target
  pub some_target : Within N g → (row : Set) → Targets g a row → (u : ℕ) × T (holds row u) → T (non_empty (targets_of N g a))
  unfolding targets_of
  some_target w row to_row (u, t) =
      let there = subst T (to_row u) t in
      some_of_member (those N (λ t. present (g a t))) u (those_of (λ t. present (g a t)) N u (w.in_range a u there).1 there)

  pub bundle : T (non_empty (targets_of N g a)) → Bundle N (sources_of N g a) (targets_of N g a) g
  unfolding below
  bundle out = record {
    sources = record { under = sources_below N g a l; some = sources_some N g a; apart = sources_distinct N g a };
    targets = record { under = targets_below N g a; some = out; apart = targets_distinct N g a };
    joined = sources_joined N g a;
  }

module _ (b : Board) (t : List ℤ) (a least : ℕ) where
  abbrev N : ℕ
  N = b.vertices

  abbrev g : Graph
  g = graph_in b t

  abbrev S : List ℕ
  S = sources_of b.vertices (graph_in b t) a

  abbrev Ts : List ℕ
  Ts = targets_of b.vertices (graph_in b t) a

  -- a star is not offered where it is refused, or saves no more
  refused_offer : is_candidate b.inputs b.outputs b.vertices (graph_in b t) a ≡ false → None ≡ offered_on b t a least
  refused_offer e = sym (ap (λ (c : Bool). cond c (Some (saving_of N g a)) None) (no_first (is_candidate b.inputs b.outputs N g a) (ltb least (saving_of N g a)) e))

  pub low_offer : saving_of b.vertices (graph_in b t) a ≤ least → None ≡ offered_on b t a least
  low_offer h = sym (ap (λ (c : Bool). cond c (Some (saving_of N g a)) None)
      (no_second (is_candidate b.inputs b.outputs N g a) (ltb least (saving_of N g a)) (is_false (ltb least (saving_of N g a)) (λ k. omega (arith, h, ltb→lt least (saving_of N g a) k)))))

  -- no targets
  pub no_targets : (row : Set) → Targets (graph_in b t) a row → ((u : ℕ) → holds row u ≡ false) → None ≡ offered_on b t a least
  unfolding targets_of
  no_targets row to_row none = refused_offer (is_false (is_candidate b.inputs b.outputs N g a) (λ k.
      let u = first_of (those N (λ v. present (g a v))) in
      let m = first_member (those N (λ v. present (g a v))) (candidate_accepted b.inputs b.outputs N g a k).some_target in
      subst T (sym (to_row u) ∙ none u) (those_at (λ v. present (g a v)) N u m).1))

  -- too few arcs from sources to targets
  pub few_arcs : length (sources_of b.vertices (graph_in b t) a) * length (targets_of b.vertices (graph_in b t) a) - (length (sources_of b.vertices (graph_in b t) a) + length (targets_of b.vertices (graph_in b t) a)) ≤ least
      → None ≡ offered_on b t a least
  unfolding saving_of
  few_arcs h = low_offer (omega (arith, h, covered_few N S Ts g))

  -- no other sources
  pub no_others : (others : Set) → OthersOf b.vertices (graph_in b t) a others → ((u : ℕ) → holds others u ≡ false) → None ≡ offered_on b t a least
  unfolding sources_of
  no_others others of none =
      let alone : length S ≡ 1 = omega (arith, no_members (those N (is_other_source N g a)) nobody) in
      few_arcs (omega (arith, one_times (length S) (length Ts) alone))
    where
      nobody : T (non_empty (those b.vertices (is_other_source b.vertices (graph_in b t) a))) → ⊥
      nobody h =
          let s = first_of (those N (is_other_source N g a)) in
          let p = those_at (is_other_source N g a) N s (first_member (those N (is_other_source N g a)) h) in
          subst T (sym (of s) ∙ none s) (and_i (ltb s N) (is_other_source N g a s) (lt→ltb s N p.0) p.1)

      one_times : (x y : ℕ) → x ≡ 1 → x * y ≡ y
      one_times x y e = ap (λ (z : ℕ). z * y) e ∙ one-mul y

  -- the two conditions that are left
  module _ (l : a < b.vertices) (out : T (non_empty (targets_of b.vertices (graph_in b t) a))) (free : fresh_on b t < b.vertices) where
    pub unfit_offer : centre_fits b t (sources_of b.vertices (graph_in b t) a) (targets_of b.vertices (graph_in b t) a) ≡ false → None ≡ offered_on b t a least
    unfit_offer e = refused_offer (candidate_by b.inputs b.outputs N g a l out free ∙ no_second (ltb (length S + length Ts) (covered_arcs N S Ts g)) (each S (λ s. fits delay_limit (to_centre S Ts g s))) e)

    pub offer : centre_fits b t (sources_of b.vertices (graph_in b t) a) (targets_of b.vertices (graph_in b t) a) ≡ true → least < saving_of b.vertices (graph_in b t) a → Some (saving_of b.vertices (graph_in b t) a) ≡ offered_on b t a least
    unfolding saving_of
    offer e more = sym (ap (λ (c : Bool). cond c (Some (saving_of N g a)) None)
        (both (is_candidate b.inputs b.outputs N g a) (ltb least (saving_of N g a))
        (candidate_by b.inputs b.outputs N g a l out free ∙ both (ltb (length S + length Ts) (covered_arcs N S Ts g)) (each S (λ s. fits delay_limit (to_centre S Ts g s))) (is_true (ltb (length S + length Ts) (covered_arcs N S Ts g)) (lt→ltb (length S + length Ts) (covered_arcs N S Ts g) (omega (arith, more)))) e)
        (is_true (ltb least (saving_of N g a)) (lt→ltb least (saving_of N g a) more))))
