-- A turn of `propagate`, and its end: lists of 64-bit cells that hold what `pushed` says.
use mathlib.Core.Path.{◌≡◌, refl, sym, ap, ap₂, ◌∙◌, subst, transport}
use mathlib.Core.Logic.{◌≢◌}
use mathlib.Core.List.{List, ◌++◌}
use Prim.Native.Nat.{ℕ, ◌+◌, ◌-◌, ◌*◌, ◌≤◌, ◌<◌}
use native.Mathlib.Omega.{arith}
use native.Mathlib.Numerals.{add-one}
use native.Mathlib.Decide.{dec_lt}
use lib.Dec.{T}
use lib.IntN.{ℤ, pos}
use lib.ListN.{length, get_or, drop, length-append, length-drop, get_or-append}
use lib.Seq.{ext_get_or, get_or-append-add, get_or-drop}
use Rattle.laws.specs.Lists.{tabulate}
use Rattle.laws.proofs.Lists.{length-tabulate, get_d_tabulate}
use Rattle.graph.specs.Delay.{Delay, ◌⋓◌, ◌⊕◌}
use Rattle.graph.specs.Graph.{Graph, propagated}
use Rattle.graph.proofs.Delay.{⋓-absent}
use Rattle.graph.proofs.Span.{InSpan, span_le}
use Rattle.graph.proofs.Rank.{Ranked}
use Rattle.graph.proofs.Propagation.{Settled, settled_is}
use Rattle.timing.specs.Limits.{delay_limit, absent_wide, fits}
use Rattle.timing.specs.Table.{read_cell, write_cell, graph_of}
use Rattle.timing.specs.Delays.{arrival_in}
use Rattle.timing.proofs.Limits.{fits_span, span_fits}
use Rattle.timing.proofs.Table.{graph_of_within, read_absent, read_at, written_read}
use Rattle.timing.proofs.Checks.{sound_fits}
use Rattle.paths.specs.declared.board.Board.{Board}
use Rattle.paths.specs.Cells.{row_at}
use Rattle.paths.specs.Chain.{Chain, chain_at, walked_at, Chains, Walkable}
use Rattle.paths.specs.Arrivals.{inside_limit, reached_limit, filled, Starts, Reached, Pushed}
use Rattle.paths.specs.Checked.{Passable}
use Rattle.paths.proofs.Rows.{row_at_cell, length-row_at}
use Rattle.paths.proofs.Sorting.{order_ranked}
use Rattle.paths.proofs.Walked.{walked_span, settled_with}
use Rattle.paths.proofs.Chaining.{chain_row, walked_row, walked_in, walked_in_⊑, walked_in_within, walked_in_order, walked_in_or}
use Rattle.paths.proofs.Pushing.{pushed, pushed_span, pushed_settled}

-- a list is known by its first n cells, read as delays, and by the rest
pub filled_is : (n : ℕ) (h : ℕ → Delay) (f₀ f : List ℤ) → n ≤ length f₀ → length f ≡ length f₀ → ((v : ℕ) → v < n → arrival_in f v ≡ h v) → ((v : ℕ) → n ≤ v → get_or f v (pos 0) ≡ get_or f₀ v (pos 0)) → f ≡ filled n h f₀
filled_is n h f₀ f room size cells rest = ext_get_or (pos 0) f (filled n h f₀) (size ∙ sym long) (λ i l. go i (dec_lt i n))
  where
    c : ℕ → ℤ
    c v = write_cell absent_wide (h v)

    long : length (filled n h f₀) ≡ length f₀
    long = simp (length-append, length-tabulate, length-drop) (omega arith)

    go : (i : ℕ) → Dec (i < n) → get_or f i (pos 0) ≡ get_or (filled n h f₀) i (pos 0)
    go i (yes l) =
        sym (written_read absent_wide (get_or f i (pos 0))) ∙ ap (write_cell absent_wide) (cells i l)
        ∙ sym (get_or-append (tabulate n c) (drop n f₀) (pos 0) i (omega (arith, length-tabulate c n)) ∙ get_d_tabulate c n i (pos 0) l)
    go i (no l) =
        let e : n + (i - n) ≡ i = omega arith in
        rest i (omega arith) ∙ ap (λ (x : ℕ). get_or f₀ x (pos 0)) (sym e) ∙ sym (get_or-drop n f₀ (i - n) (pos 0))
        ∙ sym (get_or-append-add (tabulate n c) (drop n f₀) (i - n) (pos 0))
        ∙ ap (λ (x : ℕ). get_or (tabulate n c ++ drop n f₀) (x + (i - n)) (pos 0)) (length-tabulate c n) ∙ ap (λ (x : ℕ). get_or (tabulate n c ++ drop n f₀) x (pos 0)) e

-- a vertex's row and its chain: r and k are the table's and the chains'
pub walkable_row : {b : Board} {t : List ℤ} {o c : List ℕ} → Passable b t o → Chains b.vertices t c → (u : ℕ) → u < b.vertices → (r : List ℤ) (k : List ℕ) → r ≡ row_at b.vertices u t → k ≡ row_at b.vertices u c → Walkable r k
walkable_row {b} {t} {o} {c} P C u l r k er ek = transport (λ i. Walkable (sym er i) (sym ek i)) (record {
  some = omega (arith, b.sized, long);
  few = omega (arith, b.sized.few, long);
  linked = omega (arith, long, length-row_at b.vertices c u C.room l);
  near = λ v j. subst (λ (d : Delay). T (fits delay_limit d)) (sym (row_at_cell b.vertices t u v l (omega (arith, long)))) (sound_fits P.checked.sound u v);
  chain = subst (λ (x : ℕ). Chain x (walked_at (row_at b.vertices u t) (row_at b.vertices u c)) (λ v. get_or (row_at b.vertices u c) v 0)) (sym long) (chain_row C u l);
})
  where
    long : length (row_at b.vertices u t) ≡ b.vertices
    long = length-row_at b.vertices t u P.checked.lent l

pub reached : (a : ℤ) → a ≢ absent_wide → T (fits reached_limit (read_cell absent_wide a)) → Reached a
reached a ne h = record { there = ne; near = subst (λ (d : Delay). T (fits reached_limit d)) (read_at absent_wide a ne) h }

-- what is not there pushes nothing
pub pushed_none : (n : ℕ) (row : List ℤ) (c : List ℕ) (a : ℤ) (f : List ℤ) → a ≡ absent_wide → Pushed n row c a f f
pushed_none n row c a f e = record { cells = λ v h. sym (ap (λ (d : Delay). arrival_in f v ⋓ (d ⊕ walked_at row c v)) (read_absent absent_wide a e) ∙ ⋓-absent (arrival_in f v)); rest = λ v h. refl }

-- the first p vertices have pushed
pub record Going (n : ℕ) (t : List ℤ) (o c : List ℕ) (f₀ f : List ℤ) (p : ℕ) : Type 0 where
  pub upto : p ≤ n
  pub size : length f ≡ length f₀
  pub cells : (v : ℕ) → v < n → arrival_in f v ≡ pushed (walked_in n t c) o (arrival_in f₀) p v
  pub rest : (v : ℕ) → n ≤ v → get_or f v (pos 0) ≡ get_or f₀ v (pos 0)

pub going_start : (n : ℕ) (t : List ℤ) (o c : List ℕ) (f : List ℤ) → Going n t o c f f 0
unfolding pushed
going_start n t o c f = record { upto = omega arith; size = refl; cells = λ v h. refl; rest = λ v h. refl }

module _ {b : Board} {t : List ℤ} {o c : List ℕ} {f₀ f : List ℤ} {p : ℕ} (P : Passable b t o) (R : Starts b.vertices f₀) (C : Chains b.vertices t c) (G : Going b.vertices t o c f₀ f p) where
  abbrev n : ℕ
  n = b.vertices

  abbrev F : ℕ → Delay
  F = arrival_in f₀

  abbrev k : Graph
  k = walked_in n t c

  module _ (h : p < b.vertices) where
    abbrev x : ℕ
    x = get_or o p 0

    pub x_in : x < n
    x_in = (P.order.vertex p h).0

    pub near : T (fits reached_limit (arrival_in f x))
    near = subst (λ (d : Delay). T (fits reached_limit d)) (sym (G.cells x x_in))
        (span_fits reached_limit (pushed k o F p x) (span_le (inside_limit + p * delay_limit) reached_limit (pushed k o F p x) (omega (arith, b.sized.few))
        (pushed_span (walked_in_within n t c) (walked_in_order t c P.order) F inside_limit delay_limit (λ v l. fits_span inside_limit (F v) (R.near v l)) arcs p x (omega arith) x_in)))
      where
        arcs : (u v : ℕ) → InSpan delay_limit (k u v)
        arcs u v = walked_span delay_limit (chain_at n c u) (graph_of n t u) v (fits_span delay_limit (graph_of n t u v) (sound_fits P.checked.sound u v))

    pub onward_row : (f' : List ℤ) → length f' ≡ length f → (u : ℕ) (r : List ℤ) (s : List ℕ) → u ≡ get_or o p 0 → r ≡ row_at b.vertices u t → s ≡ row_at b.vertices u c → Pushed (length r) r s (get_or f u (pos 0)) f f' → Going b.vertices t o c f₀ f' (p + 1)
    unfolding pushed
    onward_row f' l u r s eu er es q = rw add-one (record {
      upto = h;
      size = l ∙ G.size;
      cells = λ v m. pushed_here.cells v m ∙ ap₂ ◌⋓◌ (G.cells v m) (ap₂ ◌⊕◌ (G.cells x x_in) (sym (walked_row C x x_in v m)));
      rest = λ v m. pushed_here.rest v m ∙ G.rest v m;
    })
      where
        er' : r ≡ row_at n x t
        er' = er ∙ ap (λ (y : ℕ). row_at n y t) eu

        es' : s ≡ row_at n x c
        es' = es ∙ ap (λ (y : ℕ). row_at n y c) eu

        long : length r ≡ n
        long = ap length er' ∙ length-row_at n t x P.checked.lent x_in

        pushed_here : Pushed n (row_at n x t) (row_at n x c) (get_or f x (pos 0)) f f'
        pushed_here = transport (λ i. Pushed (long i) (er' i) (es' i) (get_or f (eu i) (pos 0)) f f') q

  pub ended : p ≡ b.vertices → f ≡ filled b.vertices (propagated b.vertices (graph_of b.vertices t) (arrival_in f₀)) f₀
  ended e = filled_is n (propagated n (graph_of n t) F) f₀ f R.room G.size
      (λ v l. G.cells v l ∙ ap (λ (q : ℕ). pushed k o F q v) e ∙ settled_is (graph_of_within n t) ranked settled v) G.rest
    where
      ranked : Ranked (graph_of n t)
      ranked = order_ranked P.order

      settled : Settled (graph_of n t) F (pushed k o F n)
      settled = settled_with ranked (walked_in_⊑ n t c) (walked_in_or C) (pushed_settled (walked_in_within n t c) (walked_in_order t c P.order) F)
