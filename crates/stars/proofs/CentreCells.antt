-- The star's numbers from cells: `first` holds the cells of the first source, `row` those of source s.
use mathlib.Core.Path.{◌≡◌, refl, sym, ap, ap₂, ◌∙◌}
use mathlib.Core.Bool.{Bool, true, false, cond, ◌&&◌}
use mathlib.Core.List.{List, [], ◌∷◌}
use Prim.Native.Nat.{ℕ, ◌*◌, ◌≤◌, ◌<◌}
use native.Mathlib.Nat.{mul-one, mul_comm, mul-le-mul_left}
use native.Mathlib.Omega.{arith}
use lib.Dec.{T}
use lib.IntN.{ℤ, pos, ◌-ℤ◌}
use lib.ListN.{length, get_or}
use Rattle.laws.specs.Integers.{min_z}
use Rattle.laws.specs.Bounded.{sum, each, member}
use Rattle.laws.proofs.Booleans.{T_true}
use Rattle.laws.proofs.Bounded.{each_at}
use Rattle.laws.proofs.Sums.{sum_le, sum_zero, sum_scaled}
use Rattle.graph.specs.Delay.{Delay, absent, at, present, ticks, ◌⊕◌, ◌⊖◌, ◌⋒◌, eq_d, least}
use Rattle.graph.specs.Graph.{Graph}
use Rattle.graph.proofs.Delay.{⊕-absent}
use Rattle.timing.specs.Limits.{max_vertices}
use Rattle.timing.specs.Table.{graph_of}
use Rattle.paths.specs.Cells.{cell_at, row_at}
use Rattle.paths.proofs.ReadCells.{arc_cell}
use Rattle.reduction.specs.Star.{non_empty, first_of, to_centre, from_centre, covered, covered_arcs}
use Rattle.reduction.proofs.Star.{first_member, members}
use Rattle.plans.proofs.CopiedRow.{copied}
use Rattle.stars.specs.Members.{sum_over}
use Rattle.stars.specs.StarCells.{least_gap, meets, meeting}
use Rattle.stars.specs.StarReady.{Bundle}
use Rattle.stars.proofs.Members.{below-member}
use Rattle.stars.proofs.Sets.{one_at_most, sum_over_same, sum_over_bound, least_same, sum_members}

-- a least of numbers is a number
least-number : (xs : List ℕ) (f : ℕ → ℤ) → T (non_empty xs) → (z : ℤ) × (least xs (λ x. at (f x)) ≡ at z)
unfolding least
least-number [] f t = absurd t
least-number (x ∷ []) f t = (f x, refl)
least-number (x ∷ y ∷ ys) f t = let r = least-number (y ∷ ys) f tt in (min_z (f x) r.0, ap (λ (d : Delay). at (f x) ⋒ d) r.1)

pub least_gap-number : (row first : List ℤ) (Ts : List ℕ) → T (non_empty Ts) → least_gap row first Ts ≡ at (ticks (least_gap row first Ts))
unfolding least_gap
least_gap-number row first Ts t = let r = least-number Ts (λ t. get_or row t (pos 0) -ℤ get_or first t (pos 0)) t in r.1 ∙ ap (λ (d : Delay). at (ticks d)) (sym r.1)

first_place : (S : List ℕ) → get_or S 0 0 ≡ first_of S
first_place [] = refl
first_place (x ∷ xs) = refl

-- the copy of the first source's row
pub first_row : (N : ℕ) (t : List ℤ) (S : List ℕ) (first : List ℤ) → get_or S 0 0 < N → N ≤ max_vertices → N * N ≤ length t
    → {row : List ℤ} → row ≡ row_at N (get_or S 0 0) t → ((v : ℕ) → v < length row → get_or first v (pos 0) ≡ get_or row v (pos 0)) → (v : ℕ) → v < N → cell_at first v ≡ graph_of N t (first_of S) v
first_row N t S first l few room row_is copy v k = (copied few room (get_or S 0 0) l row_is copy).same v k ∙ ap (λ (u : ℕ). graph_of N t u v) (first_place S)

pub meeting_few : (row first : List ℤ) (Ts : List ℕ) (e : ℤ) → meeting row first Ts e ≤ length Ts
unfolding meeting
meeting_few row first Ts e = sum_over_bound Ts (λ t. cond (meets row first e t) 1 0) (λ t. one_at_most (meets row first e t))

-- arcs that are not from a source to a target are not covered
module _ (S Ts : List ℕ) (g : Graph) (u t : ℕ) where
  none : (d e : Delay) → e ≡ absent → (present d && eq_d d e) ≡ false
  none absent e q = refl
  none (at z) e q = ap (eq_d (at z)) q

  pub no_source : member u S ≡ false → covered S Ts g u t ≡ false
  unfolding covered to_centre
  no_source m = none (g u t) (to_centre S Ts g u ⊕ from_centre S Ts g t) (ap (λ (b : Bool). cond b (least Ts (λ t. g u t ⊖ g (first_of S) t)) absent ⊕ from_centre S Ts g t) m)

  pub no_target : member t Ts ≡ false → covered S Ts g u t ≡ false
  unfolding covered from_centre
  no_target m = none (g u t) (to_centre S Ts g u ⊕ from_centre S Ts g t) (ap (λ (b : Bool). to_centre S Ts g u ⊕ cond b (g (first_of S) t) absent) m ∙ ⊕-absent (to_centre S Ts g u))

module _ {N : ℕ} {S Ts : List ℕ} {g : Graph} (b : Bundle N S Ts g) where
  pub target_below : (t : ℕ) → T (member t Ts) → t < N
  target_below t m = below-member N Ts b.targets.under t m

  arc : (s t : ℕ) → T (member s S) → T (member t Ts) → present (g s t) ≡ true
  arc s t ms mt = T_true {b = present (g s t)} (each_at Ts (λ t. present (g s t)) (each_at S (λ s. each Ts (λ t. present (g s t))) b.joined s ms) t mt)

  -- a source's cell at a target is a number
  pub number : (s : ℕ) → T (member s S) → (row : List ℤ) → ((v : ℕ) → v < N → cell_at row v ≡ g s v) → (t : ℕ) → T (member t Ts) → g s t ≡ at (get_or row t (pos 0))
  number s ms row cells t mt =
      let e = cells t (target_below t mt) in
      sym e ∙ arc_cell (get_or row t (pos 0)) (ap present e ∙ arc s t ms mt)

  pub all_sum : covered_arcs N S Ts g ≡ sum_over S (λ s. sum N (λ t. cond (covered S Ts g s t) 1 0))
  unfolding covered_arcs
  all_sum = sum_members N S (λ s. sum N (λ t. cond (covered S Ts g s t) 1 0)) b.sources.under b.sources.apart
      (λ u m. sum_zero N (λ t. cond (covered S Ts g u t) 1 0) (λ t _. ap (λ (x : Bool). cond x 1 0) (no_source S Ts g u t m)))

  module _ (first : List ℤ) (head : (v : ℕ) → v < N → cell_at first v ≡ g (first_of S) v) where
    pub from_first : (t : ℕ) → T (member t Ts) → from_centre S Ts g t ≡ at (get_or first t (pos 0))
    unfolding from_centre
    from_first t m = ap (λ (x : Bool). cond x (g (first_of S) t) absent) (T_true {b = member t Ts} m) ∙ number (first_of S) (first_member S b.sources.some) first head t m

    module _ (s : ℕ) (ms : T (member s S)) (row : List ℤ) (cells : (v : ℕ) → v < N → cell_at row v ≡ g s v) where
      pub gap_is : least_gap row first Ts ≡ to_centre S Ts g s
      unfolding least_gap to_centre
      gap_is =
          least_same Ts (λ t. at (get_or row t (pos 0) -ℤ get_or first t (pos 0))) (λ t. g s t ⊖ g (first_of S) t)
          (λ t m. sym (ap₂ ◌⊖◌ (number s ms row cells t m) (number (first_of S) (first_member S b.sources.some) first head t m)))
          ∙ sym (ap (λ (x : Bool). cond x (least Ts (λ t. g s t ⊖ g (first_of S) t)) absent) (T_true {b = member s S} ms))

      pub to_centre_lem : to_centre S Ts g s ≡ at (ticks (least_gap row first Ts))
      to_centre_lem = sym gap_is ∙ least_gap-number row first Ts b.targets.some

      pub covered_is : (t : ℕ) → T (member t Ts) → covered S Ts g s t ≡ meets row first (ticks (least_gap row first Ts)) t
      unfolding covered meets
      covered_is t m = λ i. present (number s ms row cells t m i) && eq_d (number s ms row cells t m i) (to_centre_lem i ⊕ from_first t m i)

      pub row_sum : sum N (λ t. cond (covered S Ts g s t) 1 0) ≡ meeting row first Ts (ticks (least_gap row first Ts))
      unfolding meeting
      row_sum =
          sum_members N Ts (λ t. cond (covered S Ts g s t) 1 0) b.targets.under b.targets.apart (λ t m. ap (λ (x : Bool). cond x 1 0) (no_target S Ts g s t m))
          ∙ sum_over_same Ts (λ t. cond (covered S Ts g s t) 1 0) (λ t. cond (meets row first (ticks (least_gap row first Ts)) t) 1 0) (λ t m. ap (λ (x : Bool). cond x 1 0) (covered_is t m))

-- no more arcs are covered than there are from a source to a target
pub covered_few : (N : ℕ) (S Ts : List ℕ) (g : Graph) → covered_arcs N S Ts g ≤ length S * length Ts
unfolding covered_arcs
covered_few N S Ts g = omega (
  arith,
  sum_le N (λ u. sum N (λ t. cond (covered S Ts g u t) 1 0)) (λ u. length Ts * cond (member u S) 1 0) (λ u _. of_row u (member u S) refl),
  sum_scaled N (length Ts) (λ u. cond (member u S) 1 0),
  mul-le-mul_left (length Ts) (members N S),
  mul_comm (length S) (length Ts),
)
  where
    of_row : (u : ℕ) (c : Bool) → member u S ≡ c → sum N (λ t. cond (covered S Ts g u t) 1 0) ≤ length Ts * cond c 1 0
    of_row u true e = omega (
      arith,
      sum_le N (λ t. cond (covered S Ts g u t) 1 0) (λ t. cond (member t Ts) 1 0) (λ t _. of_cell t (member t Ts) refl),
      members N Ts,
      mul-one (length Ts),
    )
      where
        of_cell : (t : ℕ) (c : Bool) → member t Ts ≡ c → cond (covered S Ts g u t) 1 0 ≤ cond c 1 0
        of_cell t true e = one_at_most (covered S Ts g u t)
        of_cell t false e = rw (no_target S Ts g u t e) (omega arith)
    of_row u false e = omega (arith, sum_zero N (λ t. cond (covered S Ts g u t) 1 0) (λ t _. rw (no_source S Ts g u t e) refl))
