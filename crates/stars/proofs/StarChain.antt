-- The star's verdict from the code's answers, one refusal after the other.
use mathlib.Core.Path.{◌≡◌, refl, sym, ap}
use mathlib.Core.Bool.{Bool, true, false, ◌&&◌}
use mathlib.Core.List.{List}
use Prim.Native.Nat.{ℕ, ◌+◌, ◌<◌}
use lib.Dec.{T, ltb, ltb→lt}
use lib.ListN.{length}
use Rattle.laws.specs.Bounded.{each}
use Rattle.laws.proofs.Booleans.{and_e, true_is}
use Rattle.graph.specs.Delay.{present}
use Rattle.graph.specs.Graph.{Graph}
use Rattle.timing.specs.declared.Refusal.TheVariants.{WrongVertex, WrongSet, NumberTaken, WrongArcs, NothingSaved, DelayOutOfRange}
use Rattle.timing.specs.Limits.{delay_limit, fits}
use Rattle.timing.specs.Refusal.{Verdict, accepted, require}
use Rattle.reduction.specs.Outcome.{is_inner, unused}
use Rattle.reduction.specs.Star.{non_empty, distinct, to_centre, covered_arcs, star_verdict}
use Rattle.reduction.proofs.Accepted.{star_accepted}
use Rattle.stars.specs.StarReady.{below, VertexSet, Bundle, StarReady}

abbrev chain : Bool → Bool → Bool → Bool → Bool → Bool → Verdict (Unit {0})
chain a b c d e f = require a WrongVertex (require b WrongSet (require c NumberTaken (require d WrongArcs (require e NothingSaved (require f DelayOutOfRange (accepted tt))))))

-- two sets, tested one after the other
by_set : (a b c d : Bool) → (a && b && c && d) ≡ ((a && c) && (b && d))
by_set false b c d = refl
by_set true true c d = refl
by_set true false true d = refl
by_set true false false d = refl

module _ (m n N : ℕ) (S Ts : List ℕ) (k : ℕ) (g : Graph) where
  abbrev pub exists : Bool
  exists = below N S && below N Ts && ltb k N

  abbrev pub is_set : List ℕ → Bool
  is_set xs = non_empty xs && distinct xs

  abbrev pub free : Bool
  free = is_inner m n N k && unused N g k

  abbrev pub joined : Bool
  joined = each S (λ s. each Ts (λ t. present (g s t)))

  abbrev pub saves : Bool
  saves = ltb (length S + length Ts) (covered_arcs N S Ts g)

  abbrev pub near : Bool
  near = each S (λ s. fits delay_limit (to_centre S Ts g s))

  -- the tests in the order of the code
  pub in_order : chain exists (is_set S && is_set Ts) free joined saves near ≡ star_verdict m n N S Ts k g
  unfolding star_verdict below
  in_order = ap (λ (b : Bool). chain exists b free joined saves near) (sym (by_set (non_empty S) (non_empty Ts) (distinct S) (distinct Ts)))

-- what the tests give
set_of : {N : ℕ} {xs : List ℕ} → T (below N xs) → (non_empty xs && distinct xs) ≡ true → VertexSet N xs
set_of {N} {xs} l b = let p = and_e (non_empty xs) (distinct xs) (true_is b) in record { under = l; some = p.0; apart = p.1 }

module _ (N : ℕ) (S Ts : List ℕ) (k : ℕ) (a : (below N S && below N Ts && ltb k N) ≡ true) where
  pub sources_below : T (below N S)
  sources_below = (and_e (below N S) (below N Ts) (and_e (below N S && below N Ts) (ltb k N) (true_is a)).0).0

  pub targets_below : T (below N Ts)
  targets_below = (and_e (below N S) (below N Ts) (and_e (below N S && below N Ts) (ltb k N) (true_is a)).0).1

  pub centre_below : k < N
  centre_below = ltb→lt k N (and_e (below N S && below N Ts) (ltb k N) (true_is a)).1

  pub bundle_of : {g : Graph} → (non_empty S && distinct S) ≡ true → (non_empty Ts && distinct Ts) ≡ true → each S (λ s. each Ts (λ t. present (g s t))) ≡ true → Bundle N S Ts g
  bundle_of bS bT d = record { sources = set_of sources_below bS; targets = set_of targets_below bT; joined = true_is d }

-- what an accepted verdict gives
pub star_ready : (m n N : ℕ) (S Ts : List ℕ) (k : ℕ) (g : Graph) (x : Unit {0}) → ((u v : ℕ) → T (fits delay_limit (g u v))) → star_verdict m n N S Ts k g ≡ accepted x → StarReady m n N S Ts k g
unfolding below
star_ready m n N S Ts k g x fit q =
    let h = star_accepted m n N S Ts k g x q in
    record {
      bundle = record {
        sources = record { under = h.sources_below; some = h.some_source; apart = h.sources_apart };
        targets = record { under = h.targets_below; some = h.some_target; apart = h.targets_apart };
        joined = h.joined;
      };
      in_range = fit;
      inner = h.inner;
      free = h.free;
      near = h.in_range;
    }
