-- A turn of `pull` and of `propagate_back`, and their ends. When the vertices from place p of the order on have pulled, each of them holds the latest of what
-- starts there and what its arcs bring; at the end that is `propagated` in the reversed graph.
use Rattle.std.proofs.Math.Logic.{∥∥₁_map}
use mathlib.Core.Path.{◌≡◌, sym, ap, ap₂, ◌∙◌, subst, transport}
use mathlib.Core.Logic.{◌≢◌, ◌⊎◌, inl, inr}
use mathlib.Core.List.{List}
use Prim.Native.Nat.{ℕ, ◌+◌, ◌-◌, ◌*◌, ◌≤◌, ◌<◌}
use native.Mathlib.Omega.{arith}
use native.Mathlib.Decide.{ℕ_discrete}
use lib.Dec.{T}
use lib.IntN.{ℤ, pos}
use lib.ListN.{length, get_or, set, length-set}
use lib.Seq.{get_or-set_same, get_or-set_other}
use Rattle.graph.specs.Delay.{Delay, absent, present, ◌⋓◌, ◌⊕◌, greatest}
use Rattle.graph.specs.Graph.{Graph, reversed, propagated}
use Rattle.graph.proofs.Delay.{⊑_trans, ⊑-eq, ⊕-absent, ⊕-comm, ⋓-elim, ⋓-absent, ⋓-assoc}
use Rattle.graph.proofs.Presence.{absent_or, present-⊑}
use Rattle.graph.proofs.Greatest.{greatest_ext, greatest_pad, greatest_none, greatest_more, greatest_hit}
use Rattle.graph.proofs.Span.{InSpan, span_⊕, span_le}
use Rattle.graph.proofs.Rank.{Ranked, ranked_acyclic}
use Rattle.graph.proofs.Propagation.{settled_is, propagated-settled, equation_is}
use Rattle.graph.proofs.Reversed.{within_reversed, ranked_reversed}
use Rattle.timing.specs.Limits.{delay_limit, absent_wide}
use Rattle.timing.specs.Table.{read_cell, graph_of}
use Rattle.timing.specs.Delays.{arrival_in}
use Rattle.timing.proofs.Limits.{fits_span, span_fits}
use Rattle.timing.proofs.Table.{graph_of_within}
use Rattle.timing.proofs.Checks.{sound_fits}
use Rattle.paths.specs.declared.board.Board.{Board}
use Rattle.paths.specs.Checked.{Passable}
use Rattle.paths.specs.Chain.{Chain, Beaten, chain_at, Chains}
use Rattle.paths.specs.Arrivals.{inside_limit, reached_limit, filled, Starts}
use Rattle.paths.specs.Margins.{InReach, Pulled}
use Rattle.paths.specs.Cells.{row_at}
use Rattle.paths.proofs.Rows.{length-row_at}
use Rattle.paths.proofs.Walked.{walked_span, settled_with}
use Rattle.paths.proofs.Chaining.{walked_row, walked_in, walked_in_⊑, walked_in_within, walked_in_or}
use Rattle.paths.proofs.Propagating.{filled_is}
use Rattle.paths.specs.Order.{rank_of}

-- ---- along one row: what the arcs before v bring is in, and v is an arc or the end
pub record Gathered (n : ℕ) (row : ℕ → Delay) (start : Delay) (f : ℕ → Delay) (best : Delay) (v : ℕ) : Type 0 where
  pub upto : v ≤ n
  pub arc : v < n → T (present (row v))
  pub best_is : best ≡ start ⋓ greatest v (λ x. f x ⊕ row x)

module _ {n : ℕ} {row : ℕ → Delay} {c : ℕ → ℕ} (C : Chain n row c) (start : Delay) (f : ℕ → Delay) where
  jump : (v : ℕ) → v < n → (best : Delay) → best ≡ start ⋓ greatest (v + 1) (λ x. f x ⊕ row x) → Gathered n row start f best (c v)
  jump v h best e = record {
    upto = (C.on v h).1;
    arc = C.arc v h;
    best_is = e ∙ ap (λ (d : Delay). start ⋓ d) (sym (greatest_pad (v + 1) (c v) (λ x. f x ⊕ row x) (omega (arith, (C.on v h).0)) (λ x lo hi. ap (λ (d : Delay). f x ⊕ d) (C.between v x h (omega arith) hi) ∙ ⊕-absent (f x))));
  }

  pub gathered_start : 1 ≤ n → row 0 ≡ absent → Gathered n row start f start (c 0)
  gathered_start h e = jump 0 h start (sym (ap (λ (d : Delay). start ⋓ d) (greatest_more 0 (λ x. f x ⊕ row x) ∙ ap₂ ◌⋓◌ (greatest_none (λ x. f x ⊕ row x)) (ap (λ (d : Delay). f 0 ⊕ d) e ∙ ⊕-absent (f 0))) ∙ ⋓-absent start))

  pub gathered_turn : {best : Delay} {v : ℕ} → Gathered n row start f best v → v < n → (next : Delay) → next ≡ best ⋓ (f v ⊕ row v) → Gathered n row start f next (c v)
  gathered_turn {best} {v} G h next e = jump v h next (e ∙ ap (λ (d : Delay). d ⋓ (f v ⊕ row v)) G.best_is ∙ ⋓-assoc start (greatest v (λ x. f x ⊕ row x)) (f v ⊕ row v) ∙ ap (λ (d : Delay). start ⋓ d) (sym (greatest_more v (λ x. f x ⊕ row x))))

-- ---- over the vertices, from the last to the first: those from place p of the order on have pulled
pub record Pulling (n : ℕ) (t : List ℤ) (o c : List ℕ) (f₀ f : List ℤ) (p : ℕ) : Type 0 where
  pub upto : p ≤ n
  pub size : length f ≡ length f₀
  pub done : (q : ℕ) → p ≤ q → q < n → arrival_in f (get_or o q 0) ≡ arrival_in f₀ (get_or o q 0) ⋓ greatest n (λ u. arrival_in f u ⊕ walked_in n t c (get_or o q 0) u)
  pub left : (q : ℕ) → q < p → get_or f (get_or o q 0) (pos 0) ≡ get_or f₀ (get_or o q 0) (pos 0)
  pub rest : (v : ℕ) → n ≤ v → get_or f v (pos 0) ≡ get_or f₀ v (pos 0)
  pub span : (v : ℕ) → v < n → InSpan (inside_limit + (n - p) * delay_limit) (arrival_in f v)

module _ {b : Board} {t : List ℤ} {o c : List ℕ} {f₀ : List ℤ} (P : Passable b t o) (R : Starts b.vertices f₀) (C : Chains b.vertices t c) where
  abbrev n : ℕ
  n = b.vertices

  abbrev F : ℕ → Delay
  F = arrival_in f₀

  abbrev k : Graph
  k = walked_in n t c

  abbrev rank : ℕ → ℕ
  rank = rank_of n o

  low : (v : ℕ) → v < n → rank v < n
  low v h = (P.order.place v h).0

  -- along an arc, walked or not
  rise : (u v : ℕ) → T (present (graph_of n t u v)) → rank u < rank v
  rise = P.order.rise

  rise_walked : (u v : ℕ) → T (present (k u v)) → rank u < rank v
  rise_walked u v h = rise u v (present-⊑ (walked_in_⊑ n t c u v) h)

  ranked_back : Ranked (reversed (graph_of n t))
  ranked_back = ranked_reversed (record { rank = rank; rise = rise }) n (λ u v h. omega (arith, low v ((graph_of_within n t).in_range u v h).1))

  ranked_walked : Ranked (reversed k)
  ranked_walked = ranked_reversed (record { rank = rank; rise = rise_walked }) n (λ u v h. omega (arith, low v ((walked_in_within n t c).in_range u v h).1))

  beaten_back : (u v : ℕ) → (k v u ≡ graph_of n t v u) ⊎ Beaten (graph_of n t) v u → (reversed k u v ≡ reversed (graph_of n t) u v) ⊎ Beaten (reversed (graph_of n t)) u v
  beaten_back u v (inl e) = inl e
  beaten_back u v (inr B) = inr (record { via = B.via; longer = λ h. B.longer (⊑_trans (⊑-eq (⊕-comm (graph_of n t v B.via) (graph_of n t B.via u))) h) })

  -- signals that settle on the walked arcs, backwards, settle on all of them
  walked_all : (v : ℕ) → propagated n (reversed k) F v ≡ propagated n (reversed (graph_of n t)) F v
  walked_all = settled_is (within_reversed (graph_of_within n t)) ranked_back
      (settled_with ranked_back (λ u v. walked_in_⊑ n t c v u) (λ u v. ∥∥₁_map (walked_in_or C v u) (beaten_back u v)) (propagated-settled (within_reversed (walked_in_within n t c)) (ranked_acyclic ranked_walked) F))

  module _ {f : List ℤ} (p : ℕ) (G : Pulling b.vertices t o c f₀ f (p + 1)) where
    abbrev x : ℕ
    x = get_or o p 0

    p_in : p < n
    p_in = omega (arith, G.upto)

    pub x_in : get_or o p 0 < b.vertices
    x_in = (P.order.vertex p p_in).0

    pub in_reach : InReach b.vertices f
    in_reach = record {
      room = omega (arith, G.size, R.room);
      near = λ v h. span_fits reached_limit (arrival_in f v) (span_le (inside_limit + (n - (p + 1)) * delay_limit) reached_limit (arrival_in f v) (omega (arith, b.sized.few)) (G.span v h));
    }

    module _ (r : ℤ) (q : Pulled b.vertices (row_at b.vertices (get_or o p 0) t) (row_at b.vertices (get_or o p 0) c) (get_or f (get_or o p 0) (pos 0)) f r) where
      abbrev f' : List ℤ
      f' = set f x r

      here : arrival_in f' x ≡ read_cell absent_wide r
      here = ap (read_cell absent_wide) (get_or-set_same f x r (pos 0) (omega (arith, x_in, G.size, R.room)))

      other : (v : ℕ) → v ≢ x → arrival_in f' v ≡ arrival_in f v
      other v ne = ap (read_cell absent_wide) (get_or-set_other f x v r (pos 0) ne)

      at_place : (q : ℕ) → q < n → rank (get_or o q 0) ≡ q
      at_place q l = (P.order.vertex q l).1

      apart : (q : ℕ) → q < n → q ≢ p → get_or o q 0 ≢ x
      apart q l ne e = ne (sym (at_place q l) ∙ ap rank e ∙ at_place p p_in)

      -- an arc from a vertex that has pulled, or pulls now, does not lead to x
      onward : (q : ℕ) → p ≤ q → q < n → (u : ℕ) → arrival_in f' u ⊕ k (get_or o q 0) u ≡ arrival_in f u ⊕ k (get_or o q 0) u
      onward q h l u = go (absent_or (k (get_or o q 0) u))
        where
          go : (k (get_or o q 0) u ≡ absent) ⊎ T (present (k (get_or o q 0) u)) → arrival_in f' u ⊕ k (get_or o q 0) u ≡ arrival_in f u ⊕ k (get_or o q 0) u
          go (inl e) = rw (e, ⊕-absent (arrival_in f' u), ⊕-absent (arrival_in f u))
          go (inr t) = ap (λ (d : Delay). d ⊕ k (get_or o q 0) u) (other u (λ e. omega (arith, rise_walked (get_or o q 0) u t, at_place q l, at_place p p_in, ap rank e)))

      new : read_cell absent_wide r ≡ F x ⋓ greatest n (λ u. arrival_in f u ⊕ k x u)
      new = q ∙ ap₂ ◌⋓◌ (ap (read_cell absent_wide) (G.left p (omega arith))) (greatest_ext n _ (λ u. arrival_in f u ⊕ k x u) (λ u l. ap (λ (d : Delay). arrival_in f u ⊕ d) (sym (walked_row C x x_in u l))))

      new_span : InSpan (inside_limit + (n - p) * delay_limit) (read_cell absent_wide r)
      new_span = subst (InSpan (inside_limit + (n - p) * delay_limit)) (sym new) (⋓-elim (InSpan (inside_limit + (n - p) * delay_limit)) (F x) (greatest n (λ u. arrival_in f u ⊕ k x u))
          (span_le inside_limit (inside_limit + (n - p) * delay_limit) (F x) (omega arith) (fits_span inside_limit (F x) (R.near x x_in)))
          (go (greatest_hit n (λ u. arrival_in f u ⊕ k x u))))
        where
          go : (greatest n (λ u. arrival_in f u ⊕ k x u) ≡ absent) ⊎ ((u : ℕ) × (u < n) × (greatest n (λ u. arrival_in f u ⊕ k x u) ≡ arrival_in f u ⊕ k x u)) → InSpan (inside_limit + (n - p) * delay_limit) (greatest n (λ u. arrival_in f u ⊕ k x u))
          go (inl e) = subst (InSpan (inside_limit + (n - p) * delay_limit)) (sym e) tt
          go (inr (u, l, e)) =
              let w : n - p ≡ n - (p + 1) + 1 = omega (arith, p_in) in
              subst (InSpan (inside_limit + (n - p) * delay_limit)) (sym e) (span_le (inside_limit + (n - (p + 1)) * delay_limit + delay_limit) (inside_limit + (n - p) * delay_limit) (arrival_in f u ⊕ k x u) (omega arith)
              (span_⊕ (inside_limit + (n - (p + 1)) * delay_limit) delay_limit (arrival_in f u) (k x u) (G.span u l) (walked_span delay_limit (chain_at n c x) (graph_of n t x) u (fits_span delay_limit (graph_of n t x u) (sound_fits P.checked.sound x u)))))

      pub pulling_turn : Pulling b.vertices t o c f₀ (set f (get_or o p 0) r) p
      pulling_turn = record {
        upto = omega (arith, G.upto);
        size = length-set f x r ∙ G.size;
        done = λ q h l. done q h l (ℕ_discrete q p);
        left = λ q l. get_or-set_other f x (get_or o q 0) r (pos 0) (apart q (omega (arith, p_in)) (λ e. omega arith)) ∙ G.left q (omega arith);
        rest = λ v h. get_or-set_other f x v r (pos 0) (λ e. omega (arith, x_in)) ∙ G.rest v h;
        span = λ v h. span v h (ℕ_discrete v x);
      }
        where
          wider : inside_limit + (n - (p + 1)) * delay_limit ≤ inside_limit + (n - p) * delay_limit
          wider = let w : n - p ≡ n - (p + 1) + 1 = omega (arith, p_in) in omega arith

          done : (q : ℕ) → p ≤ q → q < n → Dec (q ≡ p) → arrival_in f' (get_or o q 0) ≡ F (get_or o q 0) ⋓ greatest n (λ u. arrival_in f' u ⊕ k (get_or o q 0) u)
          done q h l (yes e) = subst (λ (z : ℕ). arrival_in f' (get_or o z 0) ≡ F (get_or o z 0) ⋓ greatest n (λ u. arrival_in f' u ⊕ k (get_or o z 0) u)) (sym e)
              (here ∙ new ∙ ap (λ (d : Delay). F x ⋓ d) (greatest_ext n (λ u. arrival_in f u ⊕ k x u) (λ u. arrival_in f' u ⊕ k x u) (λ u _. sym (onward p (omega arith) p_in u))))
          done q h l (no ne) =
              other (get_or o q 0) (apart q l ne) ∙ G.done q (omega arith) l
              ∙ ap (λ (d : Delay). F (get_or o q 0) ⋓ d) (greatest_ext n (λ u. arrival_in f u ⊕ k (get_or o q 0) u) (λ u. arrival_in f' u ⊕ k (get_or o q 0) u) (λ u _. sym (onward q h l u)))

          span : (v : ℕ) → v < n → Dec (v ≡ x) → InSpan (inside_limit + (n - p) * delay_limit) (arrival_in f' v)
          span v h (yes e) = subst (λ (z : ℕ). InSpan (inside_limit + (n - p) * delay_limit) (arrival_in f' z)) (sym e) (subst (InSpan (inside_limit + (n - p) * delay_limit)) (sym here) new_span)
          span v h (no ne) = subst (InSpan (inside_limit + (n - p) * delay_limit)) (sym (other v ne)) (span_le (inside_limit + (n - (p + 1)) * delay_limit) (inside_limit + (n - p) * delay_limit) (arrival_in f v) wider (G.span v h))

  pub pulled_all : (f : List ℤ) → Pulling b.vertices t o c f₀ f 0 → f ≡ filled b.vertices (propagated b.vertices (reversed (graph_of b.vertices t)) (arrival_in f₀)) f₀
  pulled_all f G = filled_is n (propagated n (reversed (graph_of n t)) F) f₀ f R.room G.size
      (λ v h. equation_is (within_reversed (walked_in_within n t c)) ranked_walked F (arrival_in f) each v h ∙ walked_all v) G.rest
    where
      each : (v : ℕ) → v < n → arrival_in f v ≡ F v ⋓ greatest n (λ u. arrival_in f u ⊕ k v u)
      each v h = subst (λ (z : ℕ). arrival_in f z ≡ F z ⋓ greatest n (λ u. arrival_in f u ⊕ k z u)) (P.order.place v h).1 (G.done (rank v) (omega arith) (low v h))

-- a turn of the loop over the order backwards, by rows of N cells: r and s are the table's and the chains'
module _ {b : Board} {t : List ℤ} {o c : List ℕ} {f₀ f : List ℤ} {p : ℕ} (P : Passable b t o) (R : Starts b.vertices f₀) (C : Chains b.vertices t c) (G : Pulling b.vertices t o c f₀ f p) (some : 0 < p) where
  going : Pulling b.vertices t o c f₀ f (p - 1 + 1)
  going = let e : p ≡ p - 1 + 1 = omega arith in subst (λ (k : ℕ). Pulling b.vertices t o c f₀ f k) e G

  pub pull_vertex : get_or o (p - 1) 0 < b.vertices
  pull_vertex = x_in P R C (p - 1) going

  pub pull_back : (u : ℕ) (r : List ℤ) (s : List ℕ) (z : ℤ) → u ≡ get_or o (p - 1) 0 → r ≡ row_at b.vertices u t → s ≡ row_at b.vertices u c → Pulled (length r) r s (get_or f u (pos 0)) f z → Pulling b.vertices t o c f₀ (set f u z) (p - 1)
  pull_back u r s z eu er es q = subst (λ (y : ℕ). Pulling b.vertices t o c f₀ (set f y z) (p - 1)) (sym eu) (pulling_turn P R C (p - 1) going z row_pulled)
    where
      x : ℕ
      x = get_or o (p - 1) 0

      er' : r ≡ row_at b.vertices x t
      er' = er ∙ ap (λ (y : ℕ). row_at b.vertices y t) eu

      es' : s ≡ row_at b.vertices x c
      es' = es ∙ ap (λ (y : ℕ). row_at b.vertices y c) eu

      long : length r ≡ b.vertices
      long = ap length er' ∙ length-row_at b.vertices t x P.checked.lent pull_vertex

      row_pulled : Pulled b.vertices (row_at b.vertices x t) (row_at b.vertices x c) (get_or f x (pos 0)) f z
      row_pulled = transport (λ i. Pulled (long i) (er' i) (es' i) (get_or f (eu i) (pos 0)) f z) q
