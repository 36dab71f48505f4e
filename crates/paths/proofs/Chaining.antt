-- The chain of a row, made from its last cell to its first; and the chains of a table, row by row.
use mathlib.Core.Path.{◌≡◌, sym, ap, ◌∙◌, subst}
use mathlib.Core.Logic.{◌≢◌, ◌⊎◌, inl, inr}
use mathlib.Core.Bool.{true, false, not}
use mathlib.Core.List.{List}
use Prim.Native.Nat.{ℕ, ◌+◌, ◌-◌, ◌*◌, ◌≤◌, ◌<◌}
use native.Mathlib.Omega.{arith}
use native.Mathlib.Decide.{ℕ_discrete, dec_lt}
use lib.Dec.{T}
use lib.IntN.{ℤ}
use lib.ListN.{length, get_or, set, take, drop, length-set, length-take, length-drop}
use lib.Seq.{get_or-set_same, get_or-set_other}
use borrow.Rule.Slice.PartMut.{put_mid, same_len_mid}
use Rattle.laws.proofs.Booleans.{split, true_is}
use Rattle.laws.proofs.Grid.{row_in, row_of, row_cell}
use Rattle.laws.proofs.LentParts.{put_before, put_after, put_in}
use Rattle.laws.proofs.Storing.{Stored, stored-start, stored_turn, stored_keep, stored_skip}
use Rattle.graph.specs.Delay.{Delay, absent, present, ◌⊕◌, ◌⊑◌}
use Rattle.graph.specs.Graph.{Graph}
use Rattle.graph.proofs.Delay.{⊑_trans, ⊑-eq, ⊑-absent}
use Rattle.graph.proofs.Presence.{present-⊑, absent_or, absent_unless}
use Rattle.graph.proofs.Longest.{Within}
use Rattle.timing.specs.Limits.{delay_limit, fits}
use Rattle.timing.specs.Table.{graph_of}
use Rattle.timing.proofs.Table.{graph_of_within}
use Rattle.timing.proofs.Checks.{sound_inputs, sound_fits}
use Rattle.paths.specs.declared.board.Board.{Board}
use Rattle.paths.specs.Checked.{Checked}
use Rattle.paths.specs.Cells.{cell_at, row_at}
use Rattle.paths.specs.Order.{TopologicalOrder, rank_of}
use Rattle.paths.specs.Chain.{Chain, walked, walked_at, Beaten, Chained, chain_at, Chains, unbeaten, below, Near}
use Rattle.paths.proofs.Rows.{row_at_cell, length-row_at}
use Rattle.paths.proofs.Walked.{unbeaten_no, unbeaten_yes, chain_same, walked_same, chained_same, walked-⊑, chained, unbeaten_none, unbeaten-or}

-- the cells from v on are done, and `after` is the first arc among them
pub record Linked (n : ℕ) (row : ℕ → Delay) (c : List ℕ) (after v : ℕ) : Type 0 where
  pub size : length c ≡ n
  pub low : v ≤ after
  pub high : after ≤ n
  pub arc : after < n → T (present (row after))
  pub gap : (w : ℕ) → v ≤ w → w < after → row w ≡ absent
  pub on : (j : ℕ) → v ≤ j → j < n → (j < get_or c j 0) × (get_or c j 0 ≤ n)
  pub arcs : (j : ℕ) → v ≤ j → j < n → get_or c j 0 < n → T (present (row (get_or c j 0)))
  pub between : (j : ℕ) → v ≤ j → j < n → (w : ℕ) → j < w → w < get_or c j 0 → row w ≡ absent

module _ {n : ℕ} {row : ℕ → Delay} {c : List ℕ} {after q : ℕ} (G : Linked n row c after (q + 1)) where
  cell : (P : ℕ → ℕ → Type 0) → P q after → ((j : ℕ) → q + 1 ≤ j → j < n → P j (get_or c j 0)) → (j : ℕ) → q ≤ j → j < n → P j (get_or (set c q after) j 0)
  cell P p r j h k = go (ℕ_discrete j q)
    where
      go : Dec (j ≡ q) → P j (get_or (set c q after) j 0)
      go (yes e) = rw (e, get_or-set_same c q after 0 (omega (arith, G.size, G.low, G.high))) p
      go (no ne) = rw (get_or-set_other c q j after 0 ne) (r j (omega arith) k)

  turn : (first : ℕ) → q ≤ first → first ≤ n → (first < n → T (present (row first))) → ((w : ℕ) → q ≤ w → w < first → row w ≡ absent) → Linked n row (set c q after) first q
  turn first low high arc gap = record {
    size = length-set c q after ∙ G.size;
    low = low;
    high = high;
    arc = arc;
    gap = gap;
    on = cell (λ j x. (j < x) × (x ≤ n)) (omega (arith, G.low), G.high) G.on;
    arcs = cell (λ j x. x < n → T (present (row x))) G.arc G.arcs;
    between = cell (λ j x. (w : ℕ) → j < w → w < x → row w ≡ absent) (λ w h l. G.gap w (omega arith) l) G.between;
  }

  pub link_arc : T (present (row q)) → Linked n row (set c q after) q q
  link_arc t = turn q (omega arith) (omega (arith, G.low, G.high)) (λ _. t) (λ w h l. absurd (omega arith))

  pub link_none : row q ≡ absent → Linked n row (set c q after) after q
  link_none e = turn after (omega (arith, G.low)) G.high G.arc (λ w h l. go w h l (ℕ_discrete w q))
    where
      go : (w : ℕ) → q ≤ w → w < after → Dec (w ≡ q) → row w ≡ absent
      go w h l (yes p) = ap row p ∙ e
      go w h l (no ne) = G.gap w (omega arith) l

-- a turn of the loop that makes the chain of a row without its beaten arcs
module _ {n : ℕ} (row next : ℕ → Delay) (d : Delay) {c : List ℕ} {after v : ℕ} (G : Linked n (unbeaten row next d) c after v) (some : 0 < v) where
  back : Linked n (unbeaten row next d) c after (v - 1 + 1)
  back = let e : v ≡ v - 1 + 1 = omega arith in subst (λ (k : ℕ). Linked n (unbeaten row next d) c after k) e G

  pub link_kept : present (row (v - 1)) ≡ true → below (row (v - 1)) (d ⊕ next (v - 1)) ≡ false → Linked n (unbeaten row next d) (set c (v - 1) after) (v - 1) (v - 1)
  link_kept p b = link_arc back (true_is (ap present (unbeaten_no row next d (v - 1) b) ∙ p))

  pub link_beaten : below (row (v - 1)) (d ⊕ next (v - 1)) ≡ true → Linked n (unbeaten row next d) (set c (v - 1) after) after (v - 1)
  link_beaten b = link_none back (unbeaten_yes row next d (v - 1) b)

  pub link_absent : present (row (v - 1)) ≡ false → Linked n (unbeaten row next d) (set c (v - 1) after) after (v - 1)
  link_absent p = link_none back (unbeaten_none row next d (v - 1) (absent_unless _ (true_is (ap not p))))

-- the chain of vertex u, without the arcs that are beaten by way of w, by what is made from their rows
pub chained_by : {b : Board} {t : List ℤ} → Checked b t → (u w : ℕ) → u < b.vertices → w < b.vertices → {c : ℕ → ℕ}
    → Chain b.vertices (unbeaten (cell_at (row_at b.vertices u t)) (cell_at (row_at b.vertices w t)) (graph_of b.vertices t u w)) c → Chained b.vertices (graph_of b.vertices t) u c
chained_by {b} {t} k u w l m C = chained C (unbeaten_none row next d 0 first) (λ v h. split (unbeaten-or row next d v) (λ q. inl (q ∙ cell_is v h)) (λ q. inr (
  q.0,
  record {
    via = w;
    longer = λ j. q.1 (⊑_trans (⊑-eq (ap (λ (x : Delay). d ⊕ x) (row_at_cell n t w v m h))) (⊑_trans j (⊑-eq (sym (cell_is v h)))));
  },
)))
  where
    n : ℕ
    n = b.vertices

    row : ℕ → Delay
    row = cell_at (row_at n u t)

    next : ℕ → Delay
    next = cell_at (row_at n w t)

    d : Delay
    d = graph_of n t u w

    cell_is : (v : ℕ) → v < n → row v ≡ graph_of n t u v
    cell_is v h = row_at_cell n t u v l h

    first : row 0 ≡ absent
    first = cell_is 0 (omega (arith, b.sized)) ∙ sound_inputs k.sound u 0 b.sized.some_inputs

-- a row of a checked table
pub row_near : {b : Board} {t : List ℤ} → Checked b t → (u : ℕ) → u < b.vertices → Near b.vertices (row_at b.vertices u t)
row_near {b} {t} k u l = record {
  room = omega (arith, length-row_at b.vertices t u k.lent l);
  near = λ v h. subst (λ (d : Delay). T (fits delay_limit d)) (sym (row_at_cell b.vertices t u v l h)) (sound_fits k.sound u v);
}

-- the rows of the vertices from place p of the order on are done, and w is one of the vertices
pub record Rows (n : ℕ) (t : List ℤ) (o c₀ c : List ℕ) (w p : ℕ) : Type 0 where
  pub upto : p ≤ n
  pub via : w < n
  pub size : length c ≡ length c₀
  pub done : (q : ℕ) → p ≤ q → q < n → Chained n (graph_of n t) (get_or o q 0) (chain_at n c (get_or o q 0))

module _ {n : ℕ} {t : List ℤ} {o c₀ c : List ℕ} {w : ℕ} (p : ℕ) (s : TopologicalOrder n (graph_of n t) o) (space : n * n ≤ length c₀) (R : Rows n t o c₀ c w (p + 1)) where
  abbrev u : ℕ
  u = get_or o p 0

  p_in : p < n
  p_in = omega (arith, R.upto)

  vertex : get_or o p 0 < n
  vertex = (s.vertex p p_in).0

  abbrev pub part : List ℕ
  part = take (n * get_or o p 0 + n - n * get_or o p 0) (drop (n * get_or o p 0) c)

  pub part_length : length part ≡ n
  part_length = simp (length-take, length-drop) (omega (arith, row_in n u vertex, R.size))

  pub rows_turn : (ys : List ℕ) → length ys ≡ length part → Chained n (graph_of n t) (get_or o p 0) (λ v. get_or ys v 0) → Rows n t o c₀ (put_mid (n * get_or o p 0) (n * get_or o p 0 + n - n * get_or o p 0) c ys) (get_or o p 0) p
  rows_turn ys same C = record {
    upto = omega (arith, R.upto);
    via = vertex;
    size = same_len_mid (n * u) (n * u + n - n * u) c ys same ∙ R.size;
    done = λ q h l. go q h l (ℕ_discrete q p);
  }
    where
      inside : n * u + n ≤ length c
      inside = omega (arith, row_in n u vertex, R.size)

      sized : length ys ≡ n * u + n - n * u
      sized = omega (arith, same, part_length)

      others : (k : ℕ) → k ≢ u → (v : ℕ) → v < n → chain_at n c k v ≡ chain_at n (put_mid (n * u) (n * u + n - n * u) c ys) k v
      others k ne v m = pick (dec_lt k u)
        where
          pick : Dec (k < u) → chain_at n c k v ≡ chain_at n (put_mid (n * u) (n * u + n - n * u) c ys) k v
          pick (yes h) = sym (put_before (n * u) (n * u + n) c ys 0 (omega arith) inside sized (n * k + v) (omega (arith, row_of n k u h)))
          pick (no h) = sym (put_after (n * u) (n * u + n) c ys 0 (omega arith) inside sized (n * k + v) (omega (arith, row_of n u k (omega arith))))

      go : (q : ℕ) → p ≤ q → q < n → Dec (q ≡ p) → Chained n (graph_of n t) (get_or o q 0) (chain_at n (put_mid (n * u) (n * u + n - n * u) c ys) (get_or o q 0))
      go q h l (yes e) = rw e (chained_same (λ v m. sym (put_in (n * u) (n * u + n) c ys 0 (omega arith) inside sized v (omega arith))) C)
      go q h l (no ne) = chained_same (others (get_or o q 0) (λ e. ne (sym (s.vertex q l).1 ∙ ap (rank_of n o) e ∙ (s.vertex p p_in).1))) (R.done q (omega arith) l)

-- a turn of the loop over the order backwards
pub rows_back : {n : ℕ} {t : List ℤ} {o c₀ c : List ℕ} {w p : ℕ} → TopologicalOrder n (graph_of n t) o → n * n ≤ length c₀ → Rows n t o c₀ c w p → 0 < p → (u : ℕ) → u ≡ get_or o (p - 1) 0
    → (ys : List ℕ) → length ys ≡ length (take (n * u + n - n * u) (drop (n * u) c)) → Chained n (graph_of n t) u (λ v. get_or ys v 0) → Rows n t o c₀ (put_mid (n * u) (n * u + n - n * u) c ys) u (p - 1)
rows_back {n} {t} {o} {c₀} {c} {w} {p} s space R some u e =
    let q : p ≡ p - 1 + 1 = omega arith in
    subst (λ (u : ℕ). (ys : List ℕ) → length ys ≡ length (take (n * u + n - n * u) (drop (n * u) c)) → Chained n (graph_of n t) u (λ v. get_or ys v 0) → Rows n t o c₀ (put_mid (n * u) (n * u + n - n * u) c ys) u (p - 1))
    (sym e) (rows_turn (p - 1) s space (subst (λ (k : ℕ). Rows n t o c₀ c w k) q R))

-- ---- a pass along a chain that stores at arcs: the cells before v are done, and v is an arc or the end
pub record Along {A : Type 0} (Q : ℕ → A → Type 0) (d : A) (n : ℕ) (row : ℕ → Delay) (l₀ l : List A) (v : ℕ) : Type 0 where
  pub upto : v ≤ n
  pub arc : v < n → T (present (row v))
  pub stored : Stored Q d l₀ l v

-- where there is no arc, what stands there will do
module _ {A : Type 0} {Q : ℕ → A → Type 0} {d : A} {n : ℕ} {row : ℕ → Delay} {c : ℕ → ℕ} (C : Chain n row c) (l₀ : List A) (idle : (j : ℕ) → j < n → row j ≡ absent → Q j (get_or l₀ j d)) where
  -- the cells after v up to the next arc
  jump : (v : ℕ) → v < n → (l : List A) → Stored Q d l₀ l (v + 1) → Along Q d n row l₀ l (c v)
  jump v h l s = record {
    upto = (C.on v h).1;
    arc = C.arc v h;
    stored = stored_skip s (c v) (omega (arith, (C.on v h).0)) (λ j k m. idle j (omega (arith, (C.on v h).1)) (C.between v j h (omega arith) m));
  }

  pub along_start : 1 ≤ n → row 0 ≡ absent → Along Q d n row l₀ l₀ (c 0)
  along_start h e = jump 0 h l₀ (stored_keep (stored-start Q d l₀) (idle 0 h e))

  pub along_turn : {l : List A} {v : ℕ} → Along Q d n row l₀ l v → v < n → n ≤ length l₀ → (x : A) → Q v x → Along Q d n row l₀ (set l v x) (c v)
  along_turn {l} {v} a h room x q = jump v h (set l v x) (stored_turn a.stored (omega arith) x q)

  pub along_keep : {l : List A} {v : ℕ} → Along Q d n row l₀ l v → v < n → Q v (get_or l₀ v d) → Along Q d n row l₀ l (c v)
  along_keep {l} {v} a h q = jump v h l (stored_keep a.stored q)

-- ---- a row and its chain as the code reads them
module _ {n : ℕ} {t : List ℤ} {c : List ℕ} (C : Chains n t c) (u : ℕ) (l : u < n) where
  cell_row : (v : ℕ) → v < n → chain_at n c u v ≡ get_or (row_at n u c) v 0
  cell_row v m = sym (row_cell c (n * u) n v 0 m)

  pub walked_row : (v : ℕ) → v < n → walked (chain_at n c u) (graph_of n t u) v ≡ walked_at (row_at n u t) (row_at n u c) v
  walked_row v m = walked_same (graph_of n t u) (cell_at (row_at n u t)) (chain_at n c u) (λ j. get_or (row_at n u c) j 0) v (sym (row_at_cell n t u v l m)) (cell_row (v - 1) (omega arith))

  pub chain_row : Chain n (walked_at (row_at n u t) (row_at n u c)) (λ v. get_or (row_at n u c) v 0)
  chain_row = chain_same walked_row cell_row (C.row u l).chain

-- ---- the graph of the arcs that chains walk
abbrev pub walked_in : ℕ → List ℤ → List ℕ → Graph
walked_in n t c u = walked (chain_at n c u) (graph_of n t u)

pub walked_in_⊑ : (n : ℕ) (t : List ℤ) (c : List ℕ) (u v : ℕ) → walked_in n t c u v ⊑ graph_of n t u v
walked_in_⊑ n t c u v = walked-⊑ (chain_at n c u) (graph_of n t u) v

pub walked_in_within : (n : ℕ) (t : List ℤ) (c : List ℕ) → Within n (walked_in n t c)
walked_in_within n t c = record { in_range = λ u v h. (graph_of_within n t).in_range u v (present-⊑ (walked_in_⊑ n t c u v) h) }

pub walked_in_order : {n : ℕ} (t : List ℤ) {o : List ℕ} (c : List ℕ) → TopologicalOrder n (graph_of n t) o → TopologicalOrder n (walked_in n t c) o
walked_in_order {n} t c s = record { place = s.place; vertex = s.vertex; rise = λ u v h. s.rise u v (present-⊑ (walked_in_⊑ n t c u v) h) }

pub walked_in_or : {n : ℕ} {t : List ℤ} {c : List ℕ} → Chains n t c → (u v : ℕ) → ∥ (walked_in n t c u v ≡ graph_of n t u v) ⊎ Beaten (graph_of n t) u v ∥₁
walked_in_or {n} {t} {c} C u v = go (absent_or (graph_of n t u v))
  where
    go : (graph_of n t u v ≡ absent) ⊎ T (present (graph_of n t u v)) → ∥ (walked_in n t c u v ≡ graph_of n t u v) ⊎ Beaten (graph_of n t) u v ∥₁
    go (inl e) = ∣ inl (⊑-absent (⊑_trans (walked_in_⊑ n t c u v) (⊑-eq e)) ∙ sym e) ∣₁
    go (inr h) = let l = (graph_of_within n t).in_range u v h in (C.row u l.0).rest v l.1
