-- The least margin is a function of the matrix, and it is the least present cell of the margins: no time comes near the ends of its 64 bits.
use mathlib.Core.Path.{◌≡◌, refl, sym, ap, ◌∙◌, subst}
use mathlib.Core.Logic.{◌⊎◌, inl, inr}
use mathlib.Core.List.{List}
use Prim.Native.Nat.{ℕ, ◌+◌, ◌-◌, ◌*◌, ◌≤◌, ◌<◌}
use native.Mathlib.Decide.{dec_lt}
use native.Mathlib.Omega.{arith}
use lib.Dec.{T, eqb}
use lib.IntN.{ℤ, pos}
use lib.ListN.{length}
use Rattle.laws.specs.Bounded.{every}
use Rattle.laws.proofs.Booleans.{and_e}
use Rattle.laws.proofs.Bounded.{every_at}
use Rattle.laws.proofs.Lists.{length-tabulate, get_d_tabulate}
use Rattle.graph.specs.Delay.{Delay, absent, ◌⊕◌, ◌⊖◌, ◌⊑◌, mirror, greatest, smallest}
use Rattle.graph.specs.Graph.{Graph, Longest, longest}
use Rattle.graph.proofs.Delay.{⊑_trans, ⊑-antisym, ⊑-eq, ⊕-assoc, ⊕-comm, ⊕-left, ⊕-mono, ⋓-elim, ⋓-r, none_r, none_l}
use Rattle.graph.proofs.Greatest.{greatest_ge, greatest_lub, greatest_hit, greatest_ext}
use Rattle.graph.proofs.Longest.{longest_is}
use Rattle.graph.proofs.Closure.{closed}
use Rattle.graph.proofs.Span.{InSpan, span_⊕, span_le}
use Rattle.graph.proofs.PathSpan.{longest_span}
use Rattle.graph.proofs.Mirror.{mirror_twice, same_mirror, mirror-⊖, mirror-smallest, smallest_ext, mirror_span}
use Rattle.timing.specs.Limits.{max_vertices, delay_limit, arrival_limit, absent_wide, fits}
use Rattle.timing.specs.Table.{read_cell, write_cell}
use Rattle.timing.specs.Sound.{Sound}
use Rattle.timing.specs.Delays.{matrix, arrival_at, arrival_in, arrivals_fit}
use Rattle.timing.specs.Margins.{own_time, required_at, margin_at, least_margin, cells, times, least_cell}
use Rattle.timing.specs.Recursion.{LeastOfPairs}
use Rattle.timing.proofs.Limits.{fits_span}
use Rattle.timing.proofs.Table.{read_held}
use Rattle.timing.proofs.Checks.{sound_within, sound_fits}
use Rattle.timing.proofs.Recursion.{own_output, own_low, own_high, input_arrival, other_arrival, mirror_required}

-- the same four parts
shuffle : (q y a x : Delay) → (q ⊕ y) ⊕ (a ⊕ x) ≡ (q ⊕ a) ⊕ (x ⊕ y)
shuffle q y a x = ⊕-assoc q y (a ⊕ x) ∙ ap (λ (d : Delay). q ⊕ d) (⊕-comm y (a ⊕ x) ∙ ⊕-assoc a x y) ∙ sym (⊕-assoc q a (x ⊕ y))

swap : (q y a : Delay) → (q ⊕ y) ⊕ a ≡ (q ⊕ a) ⊕ y
swap q y a = ⊕-assoc q y a ∙ ap (λ (d : Delay). q ⊕ d) (⊕-comm y a) ∙ sym (⊕-assoc q a y)

module _ {m n N : ℕ} {g : Graph} (s : Sound m n N g) (r : ℕ → Delay) where
  -- by cases of the required time at v: none, its own, or another output's
  required_cases : (v : ℕ) (P : Delay → Type 0) → P absent → ((j : ℕ) → j < n → v ≡ m + j → P (mirror (r j))) → ((j : ℕ) → j < n → P (mirror (r j) ⊕ longest g N v (m + j))) → P (mirror (required_at m n N g r v))
  required_cases v P none own far = rw (mirror_required s r v) (⋓-elim P (mirror (own_time m n r v)) (greatest n (λ j. mirror (r j) ⊕ longest g N v (m + j))) (mine (dec_lt v m) (dec_lt v (m + n))) (theirs (greatest_hit n (λ j. mirror (r j) ⊕ longest g N v (m + j)))))
    where
      mine : Dec (v < m) → Dec (v < m + n) → P (mirror (own_time m n r v))
      mine (yes p) _ = rw (own_low m n r v p) none
      mine (no p) (yes q) =
          let e : v ≡ m + (v - m) = omega arith in
          subst P (sym (ap (λ (x : ℕ). mirror (own_time m n r x)) e ∙ ap mirror (own_output m n r (v - m) (omega arith)))) (own (v - m) (omega arith) e)
      mine (no p) (no q) = rw (own_high m n r v (omega arith)) none

      theirs : (greatest n (λ j. mirror (r j) ⊕ longest g N v (m + j)) ≡ absent) ⊎ ((j : ℕ) × (j < n) × (greatest n (λ j. mirror (r j) ⊕ longest g N v (m + j)) ≡ mirror (r j) ⊕ longest g N v (m + j))) → P (greatest n (λ j. mirror (r j) ⊕ longest g N v (m + j)))
      theirs (inl e) = rw e none
      theirs (inr (j, h, e)) = rw e (far j h)

module _ {m n N : ℕ} {g : Graph} (s : Sound m n N g) (a r : ℕ → Delay) where
  abbrev L : Graph
  L = longest g N

  l : Longest g (longest g N)
  l = longest_is N g (sound_within s) s.acyclic

  -- margins mirrored: what a signal from an input to an output takes, by way of v
  abbrev late : ℕ → Delay
  late v = mirror (required_at m n N g r v) ⊕ arrival_at m N g a v

  abbrev pair : ℕ → ℕ → Delay
  pair i j = (mirror (r j) ⊕ a i) ⊕ L i (m + j)

  abbrev pairs : Delay
  pairs = greatest m (λ i. greatest n (λ j. pair i j))

  pair_⊑ : (i j : ℕ) → i < m → j < n → pair i j ⊑ pairs
  pair_⊑ i j hi hj = ⊑_trans (greatest_ge n (λ j. pair i j) j hj) (greatest_ge m (λ i. greatest n (λ j. pair i j)) i hi)

  late_⊑ : (v : ℕ) → v < N → late v ⊑ pairs
  late_⊑ v hv = go (dec_lt v m)
    where
      through : (i : ℕ) → i < m → mirror (required_at m n N g r v) ⊕ (a i ⊕ L i v) ⊑ pairs
      through i hi = required_cases s r v (λ (d : Delay). d ⊕ (a i ⊕ L i v) ⊑ pairs) (none_l (a i ⊕ L i v) refl)
          (λ j hj e. ⊑_trans (⊑-eq (sym (⊕-assoc (mirror (r j)) (a i) (L i v)) ∙ ap (λ (x : ℕ). (mirror (r j) ⊕ a i) ⊕ L i x) e)) (pair_⊑ i j hi hj))
          (λ j hj. ⊑_trans (⊑-eq (shuffle (mirror (r j)) (L v (m + j)) (a i) (L i v))) (⊑_trans (⊕-left (mirror (r j) ⊕ a i) (closed l i v (m + j))) (pair_⊑ i j hi hj)))

      go : Dec (v < m) → late v ⊑ pairs
      go (yes p) = rw (input_arrival s a v p) (required_cases s r v (λ (d : Delay). d ⊕ a v ⊑ pairs) (none_l (a v) refl) (λ j hj e. absurd (omega arith))
          (λ j hj. ⊑_trans (⊑-eq (swap (mirror (r j)) (L v (m + j)) (a v))) (pair_⊑ v j p hj)))
      go (no p) = rw (other_arrival s a v (omega arith)) (pick (greatest_hit m (λ i. a i ⊕ L i v)))
        where
          pick : (greatest m (λ i. a i ⊕ L i v) ≡ absent) ⊎ ((i : ℕ) × (i < m) × (greatest m (λ i. a i ⊕ L i v) ≡ a i ⊕ L i v)) → mirror (required_at m n N g r v) ⊕ greatest m (λ i. a i ⊕ L i v) ⊑ pairs
          pick (inl e) = none_r (mirror (required_at m n N g r v)) e
          pick (inr (i, hi, e)) = rw e (through i hi)

  pair_late : (i j : ℕ) → i < m → j < n → pair i j ⊑ greatest N late
  pair_late i j hi hj =
      ⊑_trans (⊑-eq (sym (swap (mirror (r j)) (L i (m + j)) (a i))))
      (⊑_trans (⊕-mono (⊑_trans (⊑_trans (greatest_ge n (λ j. mirror (r j) ⊕ L i (m + j)) j hj) (⋓-r (mirror (own_time m n r i)) _)) (⊑-eq (sym (mirror_required s r i)))) (⊑-eq (sym (input_arrival s a i hi))))
      (greatest_ge N late i (omega (arith, s.room))))

  pub least_of_pairs : LeastOfPairs m n N g a r
  unfolding least_margin margin_at matrix
  least_of_pairs = same_mirror (
      mirror-smallest N (λ v. required_at m n N g r v ⊖ arrival_at m N g a v)
      ∙ greatest_ext N (λ v. mirror (required_at m n N g r v ⊖ arrival_at m N g a v)) late (λ v _. mirror-⊖ (required_at m n N g r v) (arrival_at m N g a v))
      ∙ ⊑-antisym (greatest_lub N late pairs late_⊑) (greatest_lub m (λ i. greatest n (λ j. pair i j)) (greatest N late) (λ i hi. greatest_lub n (λ j. pair i j) (greatest N late) (λ j hj. pair_late i j hi hj)))
      ∙ sym (mirror-smallest m (λ i. smallest n (λ j. (r j ⊖ a i) ⊖ L i (m + j)))
      ∙ greatest_ext m (λ i. mirror (smallest n (λ j. (r j ⊖ a i) ⊖ L i (m + j)))) (λ i. greatest n (λ j. pair i j)) (λ i _. mirror-smallest n (λ j. (r j ⊖ a i) ⊖ L i (m + j))
      ∙ greatest_ext n (λ j. mirror ((r j ⊖ a i) ⊖ L i (m + j))) (λ j. pair i j) (λ j _. mirror-⊖ (r j ⊖ a i) (L i (m + j)) ∙ ap (λ (d : Delay). d ⊕ L i (m + j)) (mirror-⊖ (r j) (a i)))))
      )

-- ---- how large the times get, where those that are given are from -c to c

module _ {m n N : ℕ} {g : Graph} (s : Sound m n N g) where
  path : (u v : ℕ) → InSpan (N * delay_limit) (longest g N u v)
  path = longest_span N (sound_within s) s.acyclic delay_limit (λ u v. fits_span delay_limit (g u v) (sound_fits s u v))

  module _ (a : ℕ → Delay) (c : ℕ) (near : (i : ℕ) → i < m → InSpan c (a i)) where
    pub arrival_span : (v : ℕ) → InSpan (c + N * delay_limit) (arrival_at m N g a v)
    arrival_span v = go (dec_lt v m)
      where
        go : Dec (v < m) → InSpan (c + N * delay_limit) (arrival_at m N g a v)
        go (yes p) = subst (InSpan (c + N * delay_limit)) (sym (input_arrival s a v p)) (span_le c (c + N * delay_limit) (a v) (omega arith) (near v p))
        go (no p) = subst (InSpan (c + N * delay_limit)) (sym (other_arrival s a v (omega arith))) (pick (greatest_hit m (λ i. a i ⊕ longest g N i v)))
          where
            pick : (greatest m (λ i. a i ⊕ longest g N i v) ≡ absent) ⊎ ((i : ℕ) × (i < m) × (greatest m (λ i. a i ⊕ longest g N i v) ≡ a i ⊕ longest g N i v)) → InSpan (c + N * delay_limit) (greatest m (λ i. a i ⊕ longest g N i v))
            pick (inl e) = subst (InSpan (c + N * delay_limit)) (sym e) tt
            pick (inr (i, hi, e)) = subst (InSpan (c + N * delay_limit)) (sym e) (span_⊕ c (N * delay_limit) (a i) (longest g N i v) (near i hi) (path i v))

  module _ (r : ℕ → Delay) (c : ℕ) (near : (j : ℕ) → j < n → InSpan c (r j)) where
    pub mirrored_span : (v : ℕ) → InSpan (c + N * delay_limit) (mirror (required_at m n N g r v))
    mirrored_span v = required_cases s r v (InSpan (c + N * delay_limit)) tt
        (λ j hj _. span_le c (c + N * delay_limit) (mirror (r j)) (omega arith) (mirror_span c (r j) (near j hj)))
        (λ j hj. span_⊕ c (N * delay_limit) (mirror (r j)) (longest g N v (m + j)) (mirror_span c (r j) (near j hj)) (path v (m + j)))

    pub required_span : (v : ℕ) → InSpan (c + N * delay_limit) (required_at m n N g r v)
    required_span v = subst (InSpan (c + N * delay_limit)) (mirror_twice (required_at m n N g r v)) (mirror_span (c + N * delay_limit) (mirror (required_at m n N g r v)) (mirrored_span v))

  module _ (a r : ℕ → Delay) (c : ℕ) (near-a : (i : ℕ) → i < m → InSpan c (a i)) (near-r : (j : ℕ) → j < n → InSpan c (r j)) where
    margin_span : (v : ℕ) → InSpan (c + N * delay_limit + (c + N * delay_limit)) (margin_at m n N g a r v)
    unfolding margin_at
    margin_span v =
        let k = c + N * delay_limit in
        let x = required_at m n N g r v ⊖ arrival_at m N g a v in
        subst (InSpan (k + k)) (mirror_twice x) (mirror_span (k + k) (mirror x) (subst (InSpan (k + k)) (sym (mirror-⊖ (required_at m n N g r v) (arrival_at m N g a v))) (span_⊕ k k (mirror (required_at m n N g r v)) (arrival_at m N g a v) (mirrored_span r c near-r v) (arrival_span a c near-a v))))

-- ---- the cells

pub given_span : (m : ℕ) (a : List ℤ) → T (arrivals_fit m a) → (i : ℕ) → i < m → InSpan arrival_limit (arrival_in a i)
unfolding arrivals_fit
given_span m a t i h = fits_span arrival_limit (arrival_in a i) (every_at m (λ i. fits arrival_limit (arrival_in a i)) (and_e (eqb (length a) m) (every m (λ i. fits arrival_limit (arrival_in a i))) t).1 i h)

least-cells : (N : ℕ) (f : ℕ → Delay) → ((v : ℕ) → v < N → read_cell absent_wide (write_cell absent_wide (f v)) ≡ f v) → least_cell (cells N f) ≡ smallest N f
unfolding least_cell
least-cells N f back =
    ap (λ (k : ℕ). smallest k (arrival_in (cells N f))) (length-tabulate (λ v. write_cell absent_wide (f v)) N)
    ∙ smallest_ext N (arrival_in (cells N f)) f (λ v h. ap (read_cell absent_wide) (get_d_tabulate (λ v. write_cell absent_wide (f v)) N v (pos 0) h) ∙ back v h)

module _ {m n N : ℕ} {g : Graph} (s : Sound m n N g) (few : N ≤ max_vertices) (a r : List ℤ) (fa : T (arrivals_fit m a)) (fr : T (arrivals_fit n r)) where
  -- the least present cell of the margins is the least margin
  pub least_cell_lem : least_cell (times m n N g a r).margin ≡ least_margin m n N g (arrival_in a) (arrival_in r)
  unfolding times least_margin
  least_cell_lem = least-cells N (margin_at m n N g (arrival_in a) (arrival_in r)) (λ v _. read_held _ (omega (arith, few)) (margin_at m n N g (arrival_in a) (arrival_in r) v)
      (margin_span s (arrival_in a) (arrival_in r) arrival_limit (given_span m a fa) (given_span n r fr) v))

-- two graphs with the same matrix have the same least margin
pub same_margins : {m n N : ℕ} {g g' : Graph} → Sound m n N g → Sound m n N g' → N ≤ max_vertices → ((i j : ℕ) → i < m → j < n → matrix m N g' i j ≡ matrix m N g i j)
    → (a r : List ℤ) → T (arrivals_fit m a) → T (arrivals_fit n r) → least_cell (times m n N g' a r).margin ≡ least_cell (times m n N g a r).margin
same_margins {m} {n} {N} {g} {g'} s s' few same a r fa fr =
    least_cell_lem s' few a r fa fr ∙ least_of_pairs s' (arrival_in a) (arrival_in r)
    ∙ smallest_ext m _ _ (λ i hi. smallest_ext n _ _ (λ j hj. ap (λ (d : Delay). (arrival_in r j ⊖ arrival_in a i) ⊖ d) (same i j hi hj)))
    ∙ sym (least_cell_lem s few a r fa fr ∙ least_of_pairs s (arrival_in a) (arrival_in r))
