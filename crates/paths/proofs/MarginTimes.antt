-- Required times and margins as the code has them: lists that are started, passed over, mirrored and subtracted.
use Rattle.std.specs.Prelude.{Err, Ok}
use mathlib.Core.Path.{◌≡◌, refl, sym, ap, ap₂, ◌∙◌, subst}
use mathlib.Core.Bool.{Bool, true, false, cond, ◌&&◌}
use native.Mathlib.Decide.{dec_lt}
use borrow.Author.Tests.{lt-ltb, le-ltb, le-leb, lt-leb}
use mathlib.Core.List.{List}
use Prim.Native.Nat.{ℕ, ◌+◌, ◌-◌, ◌*◌, ◌≤◌, ◌<◌}
use native.Mathlib.Omega.{arith}
use lib.Dec.{T, leb, ltb, eqb, leb→le, ltb→lt, eqb→eq}
use lib.IntN.{ℤ, pos}
use lib.ListN.{length, get_or}
use Rattle.laws.specs.Lists.{tabulate}
use Rattle.laws.proofs.Booleans.{T_true, true_is, and_e, cond_elim}
use Rattle.laws.proofs.Filling.{fill_all}
use Rattle.laws.proofs.Lists.{length-tabulate, get_d_tabulate, tabulate_same}
use Rattle.graph.specs.Delay.{Delay, absent, ◌⊖◌, mirror}
use Rattle.graph.specs.Graph.{Graph, reversed, propagated}
use Rattle.graph.proofs.Span.{InSpan, span_le}
use Rattle.graph.proofs.Mirror.{mirror_twice, mirror_span}
use Rattle.timing.specs.declared.Refusal.TheVariants.{ArrivalLists}
use Rattle.timing.specs.Limits.{delay_limit, absent_wide, fits}
use Rattle.timing.specs.Refusal.{accepted}
use Rattle.timing.specs.Table.{read_cell, write_cell, graph_of}
use Rattle.timing.specs.Delays.{arrival_in, arrivals_fit}
use Rattle.timing.specs.Margins.{own_time, required_at, margin_at, cells, Times, times, times_fit, margins_into}
use Rattle.timing.proofs.Limits.{fits_span, span_fits}
use Rattle.timing.proofs.Table.{read_held, read_absent}
use Rattle.timing.proofs.Recursion.{required_propagated}
use Rattle.timing.proofs.Margins.{arrival_span, mirrored_span, required_span}
use Rattle.paths.specs.declared.board.Board.{Board}
use Rattle.paths.specs.Board.{graph_in}
use Rattle.paths.specs.Checked.{Checked}
use Rattle.paths.specs.Arrivals.{inside_limit, reached_limit, stored, filled, from_list, times_at, arrivals_from, Starts, Given}
use Rattle.paths.specs.Queries.{Fills}
use Rattle.paths.specs.Margins.{InReach, own_from, required_from, lists, lists_fit, margins_on}
use Rattle.paths.proofs.Starting.{stored-length, stored_cell}
use Rattle.paths.proofs.ArrivalLists.{given_of}

-- ---- cells that hold times

-- a list of n cells, each within reach
module _ (n c : ℕ) (h : ℕ → Delay) (near : (v : ℕ) → v < n → InSpan c (h v)) (low : c ≤ reached_limit) where
  module _ (f : List ℤ) (room : n ≤ length f) where
    pub read_filled : (v : ℕ) → v < n → arrival_in (filled n h f) v ≡ h v
    read_filled v l = ap (read_cell absent_wide) (stored_cell n (λ v. write_cell absent_wide (h v)) f v l) ∙ read_held c (omega arith) (h v) (near v l)

    pub filled_reach : InReach n (filled n h f)
    filled_reach = record {
      room = omega (arith, stored-length n (λ v. write_cell absent_wide (h v)) f room);
      near = λ v l. subst (λ (d : Delay). T (fits reached_limit d)) (sym (read_filled v l)) (span_fits reached_limit (h v) (span_le c reached_limit (h v) low (near v l)));
    }

-- a list that is filled whole
pub filled_whole : (n : ℕ) (h : ℕ → Delay) (f : List ℤ) → length f ≡ n → filled n h f ≡ cells n h
filled_whole n h f e = fill_all (λ v. write_cell absent_wide (h v)) f n (sym e) ∙ ap (λ (k : ℕ). tabulate k (λ v. write_cell absent_wide (h v))) e

cells_same : (n : ℕ) (f h : ℕ → Delay) → ((v : ℕ) → v < n → f v ≡ h v) → cells n f ≡ cells n h
cells_same n f h e = tabulate_same n (λ v. write_cell absent_wide (f v)) (λ v. write_cell absent_wide (h v)) (λ v l. ap (write_cell absent_wide) (e v l))

given_near : {k : ℕ} {a : List ℤ} → Given k a → (i : ℕ) → i < k → InSpan inside_limit (arrival_in a i)
given_near {k} {a} G i h = fits_span inside_limit (arrival_in a i) (G.near i h)

module _ {b : Board} {t : List ℤ} (k : Checked b t) where
  abbrev m : ℕ
  m = b.inputs

  abbrev n : ℕ
  n = b.outputs

  abbrev N : ℕ
  N = b.vertices

  abbrev g : Graph
  g = graph_of N t

  most : inside_limit + N * delay_limit ≤ reached_limit
  most = omega (arith, b.sized.few)

  -- ---- required times

  module _ (r : List ℤ) (given : Given b.outputs r) (f : List ℤ) (room : b.vertices ≤ length f) where
    abbrev R : ℕ → Delay
    R = arrival_in r

    own_span : (v : ℕ) → InSpan inside_limit (mirror (own_time m n R v))
    own_span v = mirror_span inside_limit (own_time m n R v) (cond_elim (InSpan inside_limit) (leb m v && ltb v (m + n)) (R (v - m)) absent
        (λ e. let p = and_e (leb m v) (ltb v (m + n)) e in given_near given (v - m) (omega (arith, leb→le m v p.0, ltb→lt v (m + n) p.1))) (λ _. tt))

    -- what starts at each vertex
    abbrev f₁ : List ℤ
    f₁ = stored b.vertices (own_from b r) f

    own_read : (v : ℕ) → v < N → arrival_in f₁ v ≡ mirror (own_time m n R v)
    own_read = read_filled N inside_limit (λ v. mirror (own_time m n R v)) (λ v _. own_span v) (omega arith) f room

    pub outputs_started : Starts b.vertices f₁
    outputs_started = record { room = omega (arith, stored-length N (own_from b r) f room); near = λ v h. subst (λ (d : Delay). T (fits inside_limit d)) (sym (own_read v h)) (span_fits inside_limit (mirror (own_time m n R v)) (own_span v)) }

    -- as the code makes it: the times in their place, and then their mirror images
    abbrev placed : List ℤ
    placed = stored b.vertices (times_at b.inputs r) f

    placed_read : (v : ℕ) → v < N → arrival_in placed v ≡ own_time m n R v
    placed_read v h = ap (read_cell absent_wide) (stored_cell N (times_at m r) f v h) ∙ go (dec_lt v m) (dec_lt v (m + n))
      where
        go : Dec (v < m) → Dec (v < m + n) → read_cell absent_wide (times_at m r v) ≡ own_time m n R v
        go (yes a) _ =
            ap (λ (x : Bool). read_cell absent_wide (cond x absent_wide (from_list r (v - m)))) (lt-ltb v m a) ∙ read_absent absent_wide absent_wide refl
            ∙ sym (ap (λ (x : Bool). cond (x && ltb v (m + n)) (R (v - m)) absent) (lt-leb m v a))
        go (no a) (yes h) =
            ap (λ (x : Bool). read_cell absent_wide (cond x absent_wide (from_list r (v - m)))) (le-ltb v m (omega arith))
            ∙ ap (λ (x : Bool). read_cell absent_wide (cond x (get_or r (v - m) (pos 0)) absent_wide)) (lt-ltb (v - m) (length r) (omega (arith, given.long)))
            ∙ sym (ap₂ (λ (x y : Bool). cond (x && y) (R (v - m)) absent) (le-leb m v (omega arith)) (lt-ltb v (m + n) h))
        go (no a) (no h) =
            ap (λ (x : Bool). read_cell absent_wide (cond x absent_wide (from_list r (v - m)))) (le-ltb v m (omega arith))
            ∙ ap (λ (x : Bool). read_cell absent_wide (cond x (get_or r (v - m) (pos 0)) absent_wide)) (le-ltb (v - m) (length r) (omega (arith, given.long)))
            ∙ read_absent absent_wide absent_wide refl
            ∙ sym (ap₂ (λ (x y : Bool). cond (x && y) (R (v - m)) absent) (le-leb m v (omega arith)) (le-ltb v (m + n) (omega arith)))

    own_near : (v : ℕ) → InSpan inside_limit (own_time m n R v)
    own_near v = cond_elim (InSpan inside_limit) (leb m v && ltb v (m + n)) (R (v - m)) absent
        (λ e. let p = and_e (leb m v) (ltb v (m + n)) e in given_near given (v - m) (omega (arith, leb→le m v p.0, ltb→lt v (m + n) p.1))) (λ _. tt)

    pub placed_reach : InReach b.vertices placed
    placed_reach = record {
      room = omega (arith, stored-length N (times_at m r) f room);
      near = λ v h. subst (λ (d : Delay). T (fits reached_limit d)) (sym (placed_read v h)) (span_fits reached_limit (own_time m n R v) (span_le inside_limit reached_limit (own_time m n R v) (omega arith) (own_near v)));
    }

    pub placed_mirrored : length f ≡ b.vertices → cells b.vertices (λ v. mirror (arrival_in placed v)) ≡ stored b.vertices (own_from b r) f
    placed_mirrored e =
        cells_same N _ (λ v. mirror (own_time m n R v)) (λ v h. ap mirror (placed_read v h))
        ∙ sym (fill_all (own_from b r) f N (sym e) ∙ ap (λ (k : ℕ). tabulate k (own_from b r)) e)

    -- what has come back to each
    abbrev back : ℕ → Delay
    back = propagated b.vertices (reversed (graph_of b.vertices t)) (arrival_in f₁)

    back_is : (v : ℕ) → v < N → back v ≡ mirror (required_at m n N g R v)
    back_is = required_propagated k.sound R (arrival_in f₁) own_read

    back_span : (v : ℕ) → v < N → InSpan (inside_limit + N * delay_limit) (back v)
    back_span v h = subst (InSpan (inside_limit + N * delay_limit)) (sym (back_is v h)) (mirrored_span k.sound R inside_limit (given_near given) v)

    pub back_reach : InReach b.vertices (filled b.vertices back f₁)
    back_reach = filled_reach N (inside_limit + N * delay_limit) back back_span most f₁ (omega (arith, stored-length N (own_from b r) f room))

    pub mirrored_back : cells b.vertices (λ v. mirror (arrival_in (filled b.vertices back f₁) v)) ≡ cells b.vertices (required_from b t r)
    mirrored_back = cells_same N _ (required_from b t r) (λ v h. ap mirror (read_filled N (inside_limit + N * delay_limit) back back_span most f₁ (omega (arith, stored-length N (own_from b r) f room)) v h ∙ back_is v h) ∙ mirror_twice (required_at m n N g R v))

  -- ---- the three lists

  read_cells : (c : ℕ) (h : ℕ → Delay) → ((v : ℕ) → InSpan c (h v)) → c ≤ reached_limit → (v : ℕ) → v < N → arrival_in (cells N h) v ≡ h v
  read_cells c h near low v l = ap (read_cell absent_wide) (get_d_tabulate (λ v. write_cell absent_wide (h v)) N v (pos 0) l) ∙ read_held c (omega arith) (h v) (near v)

  cells_reach : (c : ℕ) (h : ℕ → Delay) → ((v : ℕ) → InSpan c (h v)) → c ≤ reached_limit → InReach N (cells N h)
  cells_reach c h near low = record {
    room = omega (arith, length-tabulate (λ v. write_cell absent_wide (h v)) N);
    near = λ v l. subst (λ (d : Delay). T (fits reached_limit d)) (sym (read_cells c h near low v l)) (span_fits reached_limit (h v) (span_le c reached_limit (h v) low (near v)));
  }

  module _ (a r : List ℤ) (ga : Given b.inputs a) (gr : Given b.outputs r) where
    abbrev c : ℕ
    c = inside_limit + N * delay_limit

    arrivals_near : (v : ℕ) → InSpan c (arrivals_from b t a v)
    arrivals_near = arrival_span k.sound (arrival_in a) inside_limit (given_near ga)

    required_near : (v : ℕ) → InSpan c (required_from b t r v)
    required_near = required_span k.sound (arrival_in r) inside_limit (given_near gr)

    pub arrivals_reach : InReach b.vertices (cells b.vertices (arrivals_from b t a))
    arrivals_reach = cells_reach c (arrivals_from b t a) arrivals_near most

    pub required_reach : InReach b.vertices (cells b.vertices (required_from b t r))
    required_reach = cells_reach c (required_from b t r) required_near most

    pub margins_are : cells b.vertices (λ v. arrival_in (cells b.vertices (required_from b t r)) v ⊖ arrival_in (cells b.vertices (arrivals_from b t a)) v)
        ≡ cells b.vertices (margin_at b.inputs b.outputs b.vertices (graph_of b.vertices t) (arrival_in a) (arrival_in r))
    unfolding margin_at
    margins_are = cells_same N _ (λ v. required_from b t r v ⊖ arrivals_from b t a v) (λ v l. ap₂ ◌⊖◌ (read_cells c (required_from b t r) required_near most v l) (read_cells c (arrivals_from b t a) arrivals_near most v l))

-- ---- the answer

-- lists that fit
pub record Fitting (b : Board) (a r : List ℤ) (x : Times) : Type 0 where
  pub arrivals : Given b.inputs a
  pub required_times : Given b.outputs r
  pub arrival : length x.arrival ≡ b.vertices
  pub required : length x.required ≡ b.vertices
  pub margin : length x.margin ≡ b.vertices

pub fitting : (b : Board) (a r : List ℤ) (x : Times) → lists_fit b a r x ≡ true → Fitting b a r x
fitting b a r x e =
    let n = b.vertices in
    let p = and_e (arrivals_fit b.inputs a && arrivals_fit b.outputs r) (times_fit n x) (true_is e) in
    let q = and_e (arrivals_fit b.inputs a) (arrivals_fit b.outputs r) p.0 in
    let y = and_e (eqb (length x.arrival) n && eqb (length x.required) n) (eqb (length x.margin) n) p.1 in
    let z = and_e (eqb (length x.arrival) n) (eqb (length x.required) n) y.0 in
    record {
      arrivals = given_of b.inputs a (T_true q.0);
      required_times = given_of b.outputs r (T_true q.1);
      arrival = eqb→eq (length x.arrival) n z.0;
      required = eqb→eq (length x.required) n z.1;
      margin = eqb→eq (length x.margin) n y.1;
    }

module _ (b : Board) (t a r : List ℤ) (before : Times) where
  pub margins_refused : lists_fit b a r before ≡ false → Fills (margins_on b t a r before) before before (Err ArrivalLists)
  unfolding margins_into
  margins_refused e = record { answer = simp e; left = simp e }

  pub margins_done : lists_fit b a r before ≡ true → (x y z : List ℤ) → x ≡ cells b.vertices (arrivals_from b t a) → y ≡ cells b.vertices (required_from b t r)
      → z ≡ cells b.vertices (margin_at b.inputs b.outputs b.vertices (graph_in b t) (arrival_in a) (arrival_in r)) → Fills (margins_on b t a r before) before (lists x y z) (Ok tt)
  unfolding margins_into times
  margins_done e x y z p q w = let same = three p q w in record { answer = simp e (ap accepted same); left = simp e same }
    where
      three : {x x' y y' z z' : List ℤ} → x ≡ x' → y ≡ y' → z ≡ z' → lists x y z ≡ lists x' y' z'
      three e f h = cc
