-- What `propagate` gives where the signals start at one vertex, or at the inputs.
use mathlib.Core.Path.{◌≡◌, refl, sym, ap, ap₂, ◌∙◌, subst, fun_ext}
use mathlib.Core.Logic.{◌≢◌}
use mathlib.Core.Bool.{Bool, cond}
use mathlib.Core.List.{List, [], ◌∷◌, ◌++◌}
use Prim.Native.Nat.{ℕ, ◌+◌, ◌-◌, ◌≤◌, ◌<◌}
use native.Mathlib.Omega.{arith}
use native.Mathlib.Decide.{ℕ_discrete, dec_lt}
use borrow.Author.Tests.{lt-ltb, le-ltb}
use lib.Dec.{T, eqb}
use lib.IntN.{ℤ, pos}
use lib.ListN.{length, get_or, drop, length-append, length-take, length-drop, get_or-append}
use borrow.Rule.Slice.PartMut.{put_mid, same_len_mid}
use Rattle.laws.proofs.LentParts.{put_before, put_after, put_in}
use lib.Seq.{drop_at}
use Rattle.laws.specs.Lists.{tabulate}
use Rattle.laws.proofs.Linear.{zarith}
use Rattle.laws.proofs.Booleans.{eqb_same, eqb_other}
use Rattle.std.proofs.lemmas.List.{drop_all, append-nil}
use Rattle.laws.proofs.Lists.{is_tabulate, length-tabulate, get_d_tabulate, tabulate_same}
use Rattle.graph.specs.Delay.{Delay, absent, immediate}
use Rattle.graph.specs.Graph.{Graph, Longest, longest, walk, propagated}
use Rattle.graph.proofs.Longest.{longest_is}
use Rattle.graph.proofs.Propagation.{propagated_one}
use Rattle.timing.specs.Limits.{absent_wide, fits}
use Rattle.timing.specs.Table.{read_cell, write_cell, graph_of}
use Rattle.timing.specs.Delays.{arrival_in, arrival_at}
use Rattle.timing.proofs.Checks.{sound_within}
use Rattle.timing.proofs.Limits.{fits_absent}
use Rattle.timing.proofs.Table.{read_absent, read_at}
use Rattle.timing.proofs.Recursion.{arrival_propagated}
use Rattle.paths.specs.declared.board.Board.{Board}
use Rattle.paths.specs.Arrivals.{inside_limit, stored, filled, only_at, from_list, times_at, Starts, Given}
use Rattle.paths.specs.Checked.{Passable}

-- ---- stored cells

pub stored-length : (n : ℕ) (c : ℕ → ℤ) (f : List ℤ) → n ≤ length f → length (stored n c f) ≡ length f
stored-length n c f h = simp (length-append, length-tabulate, length-drop) (omega arith)

pub stored_cell : (n : ℕ) (c : ℕ → ℤ) (f : List ℤ) (v : ℕ) → v < n → get_or (stored n c f) v (pos 0) ≡ c v
stored_cell n c f v h = get_or-append (tabulate n c) (drop n f) (pos 0) v (omega (arith, length-tabulate c n)) ∙ get_d_tabulate c n v (pos 0) h

pub stored-drop : (n : ℕ) (c : ℕ → ℤ) (f : List ℤ) → drop n (stored n c f) ≡ drop n f
stored-drop n c f = drop_at (tabulate n c) (drop n f) n (length-tabulate c n)

-- all of them
pub stored_all : (n : ℕ) (c : ℕ → ℤ) (f : List ℤ) → length f ≡ n → stored n c f ≡ tabulate n c
stored_all n c f e = ap (λ (x : List ℤ). tabulate n c ++ x) (drop_all n f (omega (arith, e))) ∙ append-nil (tabulate n c)

-- absent everywhere, and then times in their place
pub times_placed : (n first : ℕ) (times none : List ℤ) → first + length times ≤ n → none ≡ tabulate n (λ _. absent_wide) → put_mid first (first + length times - first) none times ≡ tabulate n (times_at first times)
times_placed n first times none h e = is_tabulate (pos 0) (put_mid first (first + length times - first) none times) n (times_at first times) size cells
  where
    long : length none ≡ n
    long = ap length e ∙ length-tabulate (λ _. absent_wide) n

    inside : first + length times ≤ length none
    inside = omega (arith, long)

    sized : length times ≡ first + length times - first
    sized = omega arith

    size : length (put_mid first (first + length times - first) none times) ≡ n
    size = same_len_mid first (first + length times - first) none times (simp (length-take, length-drop) (omega (arith, inside))) ∙ long

    was : (v : ℕ) → v < n → get_or none v (pos 0) ≡ absent_wide
    was v k = ap (λ (x : List ℤ). get_or x v (pos 0)) e ∙ get_d_tabulate (λ _. absent_wide) n v (pos 0) k

    cells : (v : ℕ) → v < n → get_or (put_mid first (first + length times - first) none times) v (pos 0) ≡ times_at first times v
    cells v k = go (dec_lt v first) (dec_lt v (first + length times))
      where
        go : Dec (v < first) → Dec (v < first + length times) → get_or (put_mid first (first + length times - first) none times) v (pos 0) ≡ times_at first times v
        go (yes a) _ = put_before first (first + length times) none times (pos 0) (omega arith) inside sized v a ∙ was v k ∙ sym (ap (λ (b : Bool). cond b absent_wide (from_list times (v - first))) (lt-ltb v first a))
        go (no a) (yes b) =
            let q : first + (v - first) ≡ v = omega arith in
            ap (λ (x : ℕ). get_or (put_mid first (first + length times - first) none times) x (pos 0)) (sym q)
            ∙ put_in first (first + length times) none times (pos 0) (omega arith) inside sized (v - first) (omega arith)
            ∙ sym (ap (λ (b : Bool). cond b absent_wide (from_list times (v - first))) (le-ltb v first (omega arith)) ∙ ap (λ (b : Bool). cond b (get_or times (v - first) (pos 0)) absent_wide) (lt-ltb (v - first) (length times) (omega arith)))
        go (no a) (no b) =
            put_after first (first + length times) none times (pos 0) (omega arith) inside sized v (omega arith) ∙ was v k
            ∙ sym (ap (λ (b : Bool). cond b absent_wide (from_list times (v - first))) (le-ltb v first (omega arith)) ∙ ap (λ (b : Bool). cond b (get_or times (v - first) (pos 0)) absent_wide) (le-ltb (v - first) (length times) (omega arith)))

-- one time, and times from vertex 0 on
pub one_time : (i : ℕ) → times_at i (pos 0 ∷ []) ≡ only_at i
one_time i = fun_ext (λ v. go v (dec_lt v i) (ℕ_discrete v i))
  where
    go : (v : ℕ) → Dec (v < i) → Dec (v ≡ i) → times_at i (pos 0 ∷ []) v ≡ only_at i v
    go v (yes l) _ = ap (λ (b : Bool). cond b absent_wide (from_list (pos 0 ∷ []) (v - i))) (lt-ltb v i l) ∙ sym (ap (λ (b : Bool). cond b (pos 0) absent_wide) (eqb_other v i (λ e. omega arith)))
    go v (no l) (yes e) =
        ap (λ (b : Bool). cond b absent_wide (from_list (pos 0 ∷ []) (v - i))) (le-ltb v i (omega arith))
        ∙ ap (from_list (pos 0 ∷ [])) (let z : v - i ≡ 0 = omega arith in z)
        ∙ sym (ap (λ (x : ℕ). cond (eqb x i) (pos 0) absent_wide) e ∙ ap (λ (b : Bool). cond b (pos 0) absent_wide) (eqb_same i))
    go v (no l) (no ne) =
        ap (λ (b : Bool). cond b absent_wide (from_list (pos 0 ∷ []) (v - i))) (le-ltb v i (omega arith))
        ∙ ap (λ (b : Bool). cond b (get_or (pos 0 ∷ []) (v - i) (pos 0)) absent_wide) (le-ltb (v - i) 1 (omega arith))
        ∙ sym (ap (λ (b : Bool). cond b (pos 0) absent_wide) (eqb_other v i ne))

pub first_times : (a : List ℤ) → times_at 0 a ≡ from_list a
first_times a = fun_ext (λ v. let z : v - 0 ≡ v = omega arith in ap (λ (b : Bool). cond b absent_wide (from_list a (v - 0))) (le-ltb v 0 (omega arith)) ∙ ap (from_list a) z)

pub filled-drop : (n : ℕ) (h : ℕ → Delay) (f f' : List ℤ) → f' ≡ filled n h f → drop n f' ≡ drop n f
filled-drop n h f f' e = ap (drop n) e ∙ stored-drop n (λ v. write_cell absent_wide (h v)) f

-- stored twice, the second time as h says
pub filled_over : (n : ℕ) (h h' : ℕ → Delay) (c : ℕ → ℤ) (f : List ℤ) → ((v : ℕ) → v < n → h v ≡ h' v) → filled n h (stored n c f) ≡ filled n h' f
filled_over n h h' c f e =
    ap₂ ◌++◌ (tabulate_same n (λ v. write_cell absent_wide (h v)) (λ v. write_cell absent_wide (h' v)) (λ v l. ap (write_cell absent_wide) (e v l))) (stored-drop n c f)

module _ {b : Board} {t : List ℤ} {o : List ℕ} (p : Passable b t o) where
  abbrev n : ℕ
  n = b.vertices

  abbrev g : Graph
  g = graph_of n t

  l : Longest g (longest g n)
  l = longest_is n g (sound_within p.checked.sound) p.checked.sound.acyclic

  -- ---- at one vertex

  module _ (i : ℕ) (hi : i < b.vertices) (f : List ℤ) (room : b.vertices ≤ length f) where
    start : (v : ℕ) → v < n → arrival_in (stored n (only_at i) f) v ≡ read_cell absent_wide (only_at i v)
    start v h = ap (read_cell absent_wide) (stored_cell n (only_at i) f v h)

    at_i : read_cell absent_wide (only_at i i) ≡ immediate
    at_i = rw (eqb_same i) (read_at absent_wide (pos 0) (λ e. omega zarith))

    elsewhere : (v : ℕ) → v ≢ i → read_cell absent_wide (only_at i v) ≡ absent
    elsewhere v ne = rw (eqb_other v i ne) (read_absent absent_wide absent_wide refl)

    pub one_started : Starts b.vertices (stored b.vertices (only_at i) f)
    one_started = record { room = omega (arith, stored-length n (only_at i) f room); near = λ v h. subst (λ (d : Delay). T (fits inside_limit d)) (sym (start v h)) (go v (ℕ_discrete v i)) }
      where
        go : (v : ℕ) → Dec (v ≡ i) → T (fits inside_limit (read_cell absent_wide (only_at i v)))
        go v (yes e) = rw (e, at_i) tt
        go v (no ne) = fits_absent inside_limit (elsewhere v ne)

    pub one_propagated : filled b.vertices (propagated b.vertices (graph_of b.vertices t) (arrival_in (stored b.vertices (only_at i) f))) (stored b.vertices (only_at i) f)
        ≡ filled b.vertices (walk (longest (graph_of b.vertices t) b.vertices) i) f
    one_propagated = filled_over n (propagated n g (arrival_in (stored n (only_at i) f))) (walk (longest g n) i) (only_at i) f
        (propagated_one n p.checked.sound.acyclic l (arrival_in (stored n (only_at i) f)) i hi (start i hi ∙ at_i) (λ u hu ne. start u hu ∙ elsewhere u ne))

  -- ---- at the inputs

  module _ (a : List ℤ) (given : Given b.inputs a) (f : List ℤ) (room : b.vertices ≤ length f) where
    F : ℕ → Delay
    F = arrival_in (stored n (from_list a) f)

    abbrev m : ℕ
    m = b.inputs

    m≤n : m ≤ n
    m≤n = omega (arith, p.checked.sound.room)

    at_input : (v : ℕ) → v < m → F v ≡ arrival_in a v
    unfolding F
    at_input v h = ap (read_cell absent_wide) (stored_cell n (from_list a) f v (omega (arith, m≤n)) ∙ ap (λ (c : Bool). cond c (get_or a v (pos 0)) absent_wide) (lt-ltb v (length a) (omega (arith, given.long))))

    at_other : (v : ℕ) → m ≤ v → v < n → F v ≡ absent
    unfolding F
    at_other v h k =
        ap (read_cell absent_wide) (stored_cell n (from_list a) f v k ∙ ap (λ (c : Bool). cond c (get_or a v (pos 0)) absent_wide) (le-ltb v (length a) (omega (arith, given.long))))
        ∙ read_absent absent_wide absent_wide refl

    pub inputs_started : Starts b.vertices (stored b.vertices (from_list a) f)
    unfolding F
    inputs_started = record { room = omega (arith, stored-length n (from_list a) f room); near = λ v h. go v h (dec_lt v m) }
      where
        go : (v : ℕ) → v < n → Dec (v < m) → T (fits inside_limit (arrival_in (stored n (from_list a) f) v))
        go v h (yes q) = subst (λ (d : Delay). T (fits inside_limit d)) (sym (at_input v q)) (given.near v q)
        go v h (no q) = fits_absent inside_limit (at_other v (omega arith) h)

    pub inputs_propagated : filled b.vertices (propagated b.vertices (graph_of b.vertices t) (arrival_in (stored b.vertices (from_list a) f))) (stored b.vertices (from_list a) f)
        ≡ filled b.vertices (arrival_at b.inputs b.vertices (graph_of b.vertices t) (arrival_in a)) f
    unfolding F
    inputs_propagated = filled_over n (propagated n g (arrival_in (stored n (from_list a) f))) (arrival_at m n g (arrival_in a)) (from_list a) f (arrival_propagated p.checked.sound (arrival_in a) (arrival_in (stored n (from_list a) f)) at_input at_other)
