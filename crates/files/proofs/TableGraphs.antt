-- A table and its graph: written back it is the same, and a stored cell is an arc.
use mathlib.Core.Path.{◌≡◌, refl, sym, ap, ◌∙◌, fun_ext}
use mathlib.Core.Bool.{Bool, true, false, cond, ◌&&◌}
use mathlib.Core.List.{List, ◌++◌}
use Prim.Native.Nat.{ℕ, zero, suc, ◌+◌, ◌*◌, ◌≤◌, ◌<◌}
use native.Mathlib.Decide.{ℕ_discrete, dec_lt}
use native.Mathlib.Nat.{mul-suc, le_step, le_refl}
use native.Mathlib.Numerals.{add-one}
use native.Mathlib.Omega.{arith}
use lib.Dec.{T, ltb, ltb→lt}
use lib.IntN.{ℤ, pos}
use lib.ListN.{length, get_or, set, take, drop, length-take, length-drop, take-append-drop, get_or-append}
use lib.Seq.{get_or-set_same, get_or-set_other, drop_at}
use Rattle.laws.specs.Lists.{tabulate, rows}
use Rattle.laws.proofs.Booleans.{and_e, eqb_same, eqb_other}
use Rattle.laws.proofs.Filling.{rows_none, rows_step, length_fill}
use Rattle.laws.proofs.Grid.{row_of, row_in, row_cell}
use Rattle.laws.proofs.Lists.{length-tabulate, get_d_tabulate, is_tabulate}
use Rattle.graph.specs.Delay.{absent}
use Rattle.graph.specs.Graph.{Graph}
use Rattle.timing.specs.Limits.{absent_cell}
use Rattle.timing.specs.Table.{read_cell, write_cell, graph_of, with_graph}
use Rattle.timing.proofs.Table.{written_read, graph_of_at}
use Rattle.format.specs.Reading.{no_arcs, with_arc}

-- ---- rows

-- a row that is known cell by cell
row_is : {A : Type 0} (d : A) (n : ℕ) (f : ℕ → A) (t : List A) (at : ℕ) → at + n ≤ length t → ((v : ℕ) → v < n → get_or t (at + v) d ≡ f v) → take n (drop at t) ≡ tabulate n f
row_is d n f t at room e = is_tabulate d (take n (drop at t)) n f (simp (length-take, length-drop) (omega (arith, room))) (λ v l. row_cell t at n v d l ∙ e v l)

-- a list whose first r rows are known
rows_is : {A : Type 0} (d : A) (n : ℕ) (f : ℕ → ℕ → A) (t : List A) (r : ℕ) → n * r ≤ length t → ((u v : ℕ) → u < r → v < n → get_or t (n * u + v) d ≡ f u v) → rows n r f ++ drop (n * r) t ≡ t
rows_is d n f t zero h e = sym (rows_none n f t)
rows_is {A} d n f t (suc r) h e =
    let room : n * r + n ≤ length t = omega (arith, mul-suc n r) in
    let before : rows n r f ++ drop (n * r) t ≡ t = rows_is d n f t r (omega (arith, room)) (λ u v l k. e u v (le_step l) k) in
    let row : take n (drop (n * r) t) ≡ tabulate n (f r) = row_is d n (f r) t (n * r) room (λ v l. e r v (le_refl (suc r)) l) in
    ap (λ (k : ℕ). rows n k f ++ drop (n * k) t) (sym (add-one r))
    ∙ sym (rows_step n f t r)
    ∙ ap (λ (x : List A). take (n * r) x ++ (tabulate n (f r) ++ drop n (drop (n * r) x))) before
    ∙ ap (λ (x : List A). take (n * r) t ++ (x ++ drop n (drop (n * r) t))) (sym row)
    ∙ ap (λ (x : List A). take (n * r) t ++ x) (take-append-drop n (drop (n * r) t))
    ∙ take-append-drop (n * r) t

-- ---- tables

module _ (N : ℕ) (t : List ℤ) where
  -- a table that has a graph's cells, and past N × N those of t
  pub table_is : (g : Graph) (x : List ℤ) → N * N ≤ length x → ((u v : ℕ) → u < N → v < N → get_or x (N * u + v) (pos 0) ≡ write_cell absent_cell (g u v)) → drop (N * N) x ≡ drop (N * N) t → x ≡ with_graph N g t
  unfolding with_graph
  table_is g x room cells rest =
      sym (rows_is (pos 0) N (λ u v. write_cell absent_cell (g u v)) x N room cells)
      ∙ ap (λ (r : List ℤ). rows N N (λ u v. write_cell absent_cell (g u v)) ++ r) rest

  -- such as its own
  pub own_graph : (x : List ℤ) → N * N ≤ length x → drop (N * N) x ≡ drop (N * N) t → x ≡ with_graph N (graph_of N x) t
  own_graph x room = table_is (graph_of N x) x room (λ u v hu hv. sym (ap (write_cell absent_cell) (graph_of_at N x u v hu hv) ∙ written_read absent_cell (get_or x (N * u + v) (pos 0))))

  -- N × N absent cells
  pub blanked : N * N ≤ length t → tabulate (N * N) (λ _. absent_cell) ++ drop (N * N) t ≡ with_graph N no_arcs t
  blanked room =
      table_is no_arcs (tabulate (N * N) (λ _. absent_cell) ++ drop (N * N) t)
      (omega (arith, room, length_fill (λ _. absent_cell) t (N * N) room))
      (λ u v hu hv. cell (N * u + v) (omega (arith, row_in N u hu)))
      (drop_at (tabulate (N * N) (λ _. absent_cell)) (drop (N * N) t) (N * N) (length-tabulate (λ _. absent_cell) (N * N)))
    where
      cell : (i : ℕ) → i < N * N → get_or (tabulate (N * N) (λ _. absent_cell) ++ drop (N * N) t) i (pos 0) ≡ absent_cell
      cell i l =
          get_or-append (tabulate (N * N) (λ _. absent_cell)) (drop (N * N) t) (pos 0) i (omega (arith, length-tabulate (λ _. absent_cell) (N * N)))
          ∙ get_d_tabulate (λ _. absent_cell) (N * N) i (pos 0) l

-- ---- a stored cell

-- two cells of a grid stand in one place only where they are one
same_cell : (n u v x y : ℕ) → v < n → y < n → n * x + y ≡ n * u + v → (x ≡ u) × (y ≡ v)
same_cell n u v x y hv hy e = go (dec_lt x u) (dec_lt u x)
  where
    go : Dec (x < u) → Dec (u < x) → (x ≡ u) × (y ≡ v)
    go (yes l) _ = absurd (omega (arith, row_of n x u l))
    go (no _) (yes l) = absurd (omega (arith, row_of n u x l))
    go (no k) (no l) =
        let q : x ≡ u = omega (arith, k, l) in
        (q, omega (arith, e, ap (λ (z : ℕ). n * z) q))

cond_same : {A : Type 0} (b : Bool) (x y z : A) → (T b → x ≡ y) → cond b x z ≡ cond b y z
cond_same true x y z h = h tt
cond_same false x y z h = refl

module _ (N : ℕ) (t : List ℤ) (u v : ℕ) (d : ℤ) (hu : u < N) (hv : v < N) where
  abbrev after : List ℤ
  after = set t (N * u + v) d

  -- another cell is as it was
  beside : (x y : ℕ) → ¬ ((x ≡ u) × (y ≡ v)) → graph_of N after x y ≡ graph_of N t x y
  unfolding graph_of
  beside x y n =
      cond_same (ltb x N && ltb y N) (read_cell absent_cell (get_or after (N * x + y) (pos 0))) (read_cell absent_cell (get_or t (N * x + y) (pos 0))) absent
      (λ b. ap (read_cell absent_cell) (get_or-set_other t (N * u + v) (N * x + y) d (pos 0) (λ e. n (same_cell N u v x y hv (ltb→lt y N (and_e (ltb x N) (ltb y N) b).1) e))))

  pub stored_arc : N * N ≤ length t → graph_of N (set t (N * u + v) d) ≡ with_arc u v (read_cell absent_cell d) (graph_of N t)
  stored_arc room = fun_ext (λ x. fun_ext (λ y. go x y (ℕ_discrete x u) (ℕ_discrete y v)))
    where
      go : (x y : ℕ) → Dec (x ≡ u) → Dec (y ≡ v) → graph_of N after x y ≡ with_arc u v (read_cell absent_cell d) (graph_of N t) x y
      go x y (yes p) (yes q) =
          simp (p, q, eqb_same)
          (graph_of_at N after u v hu hv ∙ ap (read_cell absent_cell) (get_or-set_same t (N * u + v) d (pos 0) (omega (arith, row_in N u hu))))
      go x y (yes p) (no q) = beside x y (λ e. q e.1) ∙ simp (p, eqb_same, eqb_other y v q)
      go x y (no p) _ = beside x y (λ e. p e.0) ∙ simp (eqb_other x u p)
