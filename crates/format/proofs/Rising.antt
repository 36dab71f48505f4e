-- The arcs of a graph are legal and rise, and placed one after another they make the graph.
use mathlib.Core.Path.{◌≡◌, refl, sym, ap, ◌∙◌}
use mathlib.Core.Logic.{◌≢◌}
use mathlib.Core.Bool.{Bool, true, false, cond, ◌&&◌, ◌||◌}
use mathlib.Core.List.{List, [], ◌∷◌, ◌++◌}
use Prim.Native.Nat.{ℕ, zero, suc, ◌+◌, ◌*◌, ◌≤◌, ◌<◌}
use native.Mathlib.Nat.{mul-suc, eq-or-lt_of_le}
use borrow.Author.Tests.{ltb-true, ltb-false, lt-ltb, le-ltb, eq-eqb, ne_eqb}
use native.Mathlib.Omega.{arith}
use native.Mathlib.Decide.{ℕ_discrete}
use lib.Dec.{T, eqb, ltb}
use Rattle.laws.proofs.Booleans.{split, cases}
use Rattle.graph.specs.Delay.{Delay, absent, at}
use Rattle.graph.specs.Graph.{Graph}
use Rattle.graph.proofs.Longest.{Within}
use Rattle.graph.proofs.Presence.{absent_or}
use Rattle.timing.specs.Limits.{delay_limit, fits}
use Rattle.format.specs.Arcs.{Arc, arc_in, row_arcs, arcs_between, arcs_of}
use Rattle.format.specs.Reading.{with_arc, no_arcs}

-- legal arcs among N vertices, from cell `low` on
abbrev pub Rising : ℕ → ℕ → List Arc → Type 0
Rising N low [] = Unit {0}
Rising N low (a ∷ as') = (a.from < N) × (a.to < N) × T (fits delay_limit (at a.delay)) × (low ≤ N * a.from + a.to) × Rising N (suc (N * a.from + a.to)) as'

rising_sooner : (N low low' : ℕ) (as' : List Arc) → low' ≤ low → Rising N low as' → Rising N low' as'
rising_sooner N low low' [] l h = tt
rising_sooner N low low' (a ∷ as') l h = (h.0, h.1, h.2, omega (arith, l, h.3), h.4)

module _ (N : ℕ) (g : Graph) (legal : (u v : ℕ) → T (fits delay_limit (g u v))) where
  rising_row : (u v c low : ℕ) (rest : List Arc) → u < N → v + c ≤ N → low ≤ N * u + v → Rising N (N * u + (v + c)) rest → Rising N low (row_arcs g u v c ++ rest)
  unfolding row_arcs
  rising_row u v zero low rest hu hv l h = rising_sooner N (N * u + (v + 0)) low rest (omega arith) h
  rising_row u v (suc c) low rest hu hv l h = go (g u v) (legal u v) (rising_row u (suc v) c)
    where
      there : Rising N (N * u + (suc v + c)) rest
      there = rising_sooner N (N * u + (v + suc c)) (N * u + (suc v + c)) rest (omega arith) h

      go : (d : Delay) → T (fits delay_limit d) → ((low : ℕ) (rest : List Arc) → u < N → suc v + c ≤ N → low ≤ N * u + suc v → Rising N (N * u + (suc v + c)) rest → Rising N low (row_arcs g u (suc v) c ++ rest))
          → Rising N low (arc_in u v d ++ row_arcs g u (suc v) c ++ rest)
      go absent t ih = ih low rest hu (omega arith) (omega arith) there
      go (at d) t ih = (hu, omega arith, t, l, ih (suc (N * u + v)) rest hu (omega arith) (omega arith) there)

  rising_from : (u c : ℕ) → u + c ≤ N → Rising N (N * u) (arcs_between N g u c)
  unfolding arcs_between
  rising_from u zero l = tt
  rising_from u (suc c) l =
      let e : N * suc u ≡ N * u + N = mul-suc N u in
      rising_row u 0 N (N * u) (arcs_between N g (suc u) c) (omega arith) (omega arith) (omega arith) (rising_sooner N (N * suc u) (N * u + (0 + N)) (arcs_between N g (suc u) c) (omega arith) (rising_from (suc u) c (omega arith)))

  pub rising-arcs : Rising N 0 (arcs_of N g)
  rising-arcs = rising_sooner N (N * 0) 0 (arcs_of N g) (omega arith) (rising_from 0 N (omega arith))

-- ---- the graph that arcs make

abbrev pub place_all : List Arc → Graph → Graph
place_all [] h = h
place_all (a ∷ as') h = place_all as' (with_arc a.from a.to (at a.delay) h)

-- the cells before u, v
abbrev before : ℕ → ℕ → ℕ → ℕ → Bool
before u v x y = ltb x u || (eqb x u && ltb y v)

abbrev cut : Graph → ℕ → ℕ → Graph
cut g u v x y = cond (before u v x y) (g x y) absent

module _ (N : ℕ) (g : Graph) (w : Within N g) where
  -- no arc beyond the vertices
  beyond : (x y : ℕ) → ((x < N) × (y < N) → ⊥) → g x y ≡ absent
  beyond x y h = split (absent_or (g x y)) (λ e. e) (λ t. absurd (h (w.in_range x y t)))

  -- one cell more
  cut_more : (u v : ℕ) (d : Delay) → g u v ≡ d → (x y : ℕ) → cond (eqb x u && eqb y v) d (cut g u v x y) ≡ cut g u (suc v) x y
  cut_more u v d q x y = go (ℕ_discrete x u) (ℕ_discrete y v)
    where
      later : y ≢ v → ltb y v ≡ ltb y (suc v)
      later ne = cases (ltb y v) (λ e. e ∙ sym (lt-ltb y (suc v) (omega (arith, ltb-true y v e)))) (λ e. e ∙ sym (le-ltb y (suc v) (other (ltb-false y v e) ne)))
        where
          other : v ≤ y → y ≢ v → suc v ≤ y
          other l ne = split (eq-or-lt_of_le l) (λ e. absurd (ne (sym e))) (λ k. k)

      go : Dec (x ≡ u) → Dec (y ≡ v) → cond (eqb x u && eqb y v) d (cut g u v x y) ≡ cut g u (suc v) x y
      go (yes e) (yes f) = simp (eq-eqb x u e, eq-eqb y v f, le-ltb x u (omega arith), lt-ltb y (suc v) (omega arith)) (sym ((λ i. g (e i) (f i)) ∙ q))
      go (yes e) (no f) = simp (eq-eqb x u e, ne_eqb y v f, le-ltb x u (omega arith), later f)
      go (no e) f = simp (ne_eqb x u e)

  row_end : (u x y : ℕ) → cut g u N x y ≡ cut g (suc u) 0 x y
  row_end u x y = go (ℕ_discrete x u)
    where
      off : N ≤ y → absent ≡ g x y
      off l = sym (beyond x y (λ h. omega (arith, h.1)))

      go : Dec (x ≡ u) → cut g u N x y ≡ cut g (suc u) 0 x y
      go (yes e) = cases (ltb y N)
          (λ k. simp (eq-eqb x u e, le-ltb x u (omega arith), lt-ltb x (suc u) (omega arith), k))
          (λ k. simp (eq-eqb x u e, le-ltb x u (omega arith), lt-ltb x (suc u) (omega arith), k) (off (ltb-false y N k)))
      go (no e) = cases (ltb x u)
          (λ k. simp (k, lt-ltb x (suc u) (omega (arith, ltb-true x u k))))
          (λ k. simp (k, ne_eqb x u e, le-ltb x (suc u) (above (ltb-false x u k) e), le-ltb y 0 (omega arith)) (none (eqb x (suc u))))
        where
          above : u ≤ x → x ≢ u → suc u ≤ x
          above l ne = split (eq-or-lt_of_le l) (λ e. absurd (ne (sym e))) (λ k. k)

          none : (b : Bool) → absent ≡ cond (b && false) (g x y) absent
          none true = refl
          none false = refl

  all_cells : (x y : ℕ) → cut g N 0 x y ≡ g x y
  all_cells x y = cases (ltb x N) (λ k. simp k) (λ k. simp (k, le-ltb y 0 (omega arith)) (none (eqb x N) (sym (beyond x y (λ h. omega (arith, h.0, ltb-false x N k))))))
    where
      none : (b : Bool) → absent ≡ g x y → cond (b && false) (g x y) absent ≡ g x y
      none true e = e
      none false e = e

  no_cells : (x y : ℕ) → no_arcs x y ≡ cut g 0 0 x y
  no_cells x y = simp (le-ltb x 0 (omega arith), le-ltb y 0 (omega arith)) (none (eqb x 0))
    where
      none : (b : Bool) → absent ≡ cond (b && false) (g x y) absent
      none true = refl
      none false = refl

  place_row : (u v c : ℕ) (rest : List Arc) → place_all (row_arcs g u v c ++ rest) (cut g u v) ≡ place_all rest (cut g u (v + c))
  unfolding row_arcs
  place_row u v zero rest = let e : v ≡ v + 0 = omega arith in ap (λ (x : ℕ). place_all rest (cut g u x)) e
  place_row u v (suc c) rest = go (g u v) refl ∙ place_row u (suc v) c rest ∙ ap (λ (x : ℕ). place_all rest (cut g u x)) (let e : suc v + c ≡ v + suc c = omega arith in e)
    where
      go : (d : Delay) → g u v ≡ d → place_all (arc_in u v d ++ row_arcs g u (suc v) c ++ rest) (cut g u v) ≡ place_all (row_arcs g u (suc v) c ++ rest) (cut g u (suc v))
      go absent e = ap (place_all (row_arcs g u (suc v) c ++ rest)) (λ i x y. (keep x y ∙ cut_more u v absent e x y) i)
        where
          keep : (x y : ℕ) → cut g u v x y ≡ cond (eqb x u && eqb y v) absent (cut g u v x y)
          keep x y = at_cell (ℕ_discrete x u) (ℕ_discrete y v)
            where
              at_cell : Dec (x ≡ u) → Dec (y ≡ v) → cut g u v x y ≡ cond (eqb x u && eqb y v) absent (cut g u v x y)
              at_cell (yes p) (yes q) = simp (eq-eqb x u p, eq-eqb y v q, le-ltb x u (omega arith), le-ltb y v (omega arith))
              at_cell (yes p) (no q) = simp (ne_eqb y v q, eq-eqb x u p)
              at_cell (no p) q = simp (ne_eqb x u p)
      go (at d) e = ap (place_all (row_arcs g u (suc v) c ++ rest)) (λ i x y. cut_more u v (at d) e x y i)

  place_from : (u c : ℕ) → u + c ≡ N → place_all (arcs_between N g u c) (cut g u 0) ≡ g
  unfolding arcs_between
  place_from u zero l = (λ i x y. cut g ((let e : u ≡ N = omega arith in e) i) 0 x y) ∙ (λ i x y. all_cells x y i)
  place_from u (suc c) l =
      place_row u 0 N (arcs_between N g (suc u) c)
      ∙ ap (place_all (arcs_between N g (suc u) c)) ((λ i x y. cut g u ((let e : 0 + N ≡ N = omega arith in e) i) x y) ∙ (λ i x y. row_end u x y i))
      ∙ place_from (suc u) c (omega arith)

  pub place_arcs : place_all (arcs_of N g) no_arcs ≡ g
  place_arcs = ap (place_all (arcs_of N g)) (λ i x y. no_cells x y i) ∙ place_from 0 N (omega arith)
