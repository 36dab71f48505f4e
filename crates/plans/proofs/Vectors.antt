-- Two vectors of delays in the scratch, one after the other.
use mathlib.Core.Path.{◌≡◌, sym, ap, ◌∙◌, subst}
use mathlib.Core.List.{List, ◌++◌, append-nil}
use Prim.Native.Nat.{ℕ, ◌+◌, ◌-◌, ◌≤◌, ◌<◌}
use native.Mathlib.Omega.{arith}
use lib.Dec.{T}
use lib.IntN.{ℤ, pos}
use lib.ListN.{length, get_or, take, drop, length-drop, length-take, get_or-append, drop_of_length-le}
use lib.Seq.{length-take-le, take_all, get_or-take, get_or-drop, drop-drop, drop_at}
use borrow.Rule.Slice.PartMut.{put_mid, same_len_mid}
use Rattle.laws.proofs.Grid.{row_cell}
use Rattle.graph.specs.Delay.{Delay}
use Rattle.graph.specs.Graph.{Graph, longest, walk}
use Rattle.graph.proofs.Closure.{walk_other}
use Rattle.timing.specs.Limits.{arrival_limit, absent_wide, fits}
use Rattle.timing.specs.Table.{read_cell, graph_of}
use Rattle.timing.specs.Delays.{arrival_in, matrix}
use Rattle.reduction.specs.Common.{common_difference}
use Rattle.paths.specs.declared.board.Board.{Board}
use Rattle.paths.specs.Arrivals.{filled}
use Rattle.paths.specs.Checked.{Passable}
use Rattle.plans.specs.Comparing.{Comparable}
use Rattle.plans.specs.Sharing.{TwoVectors}
use Rattle.plans.proofs.Differences.{common_same}
use Rattle.paths.proofs.Answering.{drop_further}
use Rattle.paths.proofs.PathDelays.{walk_near, held_length, held_past, held_walk}

-- ---- the cells from the n-th on, lent as `&mut f[n..]`, that came back as y
module _ (n : ℕ) (f y : List ℤ) (h : n ≤ length f) where
  abbrev pub rest : List ℤ
  rest = take (length f - n) (drop n f)

  abbrev pub joined : List ℤ
  joined = put_mid n (length f - n) f y

  rest_is : rest ≡ drop n f
  rest_is = take_all (length f - n) (drop n f) (omega (arith, length-drop n f))

  joined_low : (v : ℕ) → v < n → get_or joined v (pos 0) ≡ get_or f v (pos 0)
  joined_low v l = get_or-append (take n f) (y ++ drop (length f - n) (drop n f)) (pos 0) v (omega (arith, length-take-le n f h)) ∙ get_or-take n f v (pos 0) l

  joined_drop : drop n joined ≡ y
  joined_drop =
      drop_at (take n f) (y ++ drop (length f - n) (drop n f)) n (length-take-le n f h)
      ∙ ap (λ (l : List ℤ). y ++ l) (drop_of_length-le (drop n f) {i = length f - n} (omega (arith, length-drop n f))) ∙ append-nil y

  joined_high : (v : ℕ) → get_or joined (n + v) (pos 0) ≡ get_or y v (pos 0)
  joined_high v = sym (get_or-drop n joined v (pos 0)) ∙ ap (λ (l : List ℤ). get_or l v (pos 0)) joined_drop

-- ---- the delays from i and from j
module _ {b : Board} {t : List ℤ} {o : List ℕ} (p : Passable b t o) (i j : ℕ) (hi : i < b.vertices) (hj : j < b.vertices) (f₀ f₁ y : List ℤ) (room : b.vertices + b.vertices ≤ length f₀)
    (e : f₁ ≡ filled b.vertices (walk (longest (graph_of b.vertices t) b.vertices) i) f₀) where
  abbrev N : ℕ
  N = b.vertices

  abbrev m : ℕ
  m = b.inputs

  abbrev g : Graph
  g = graph_of N t

  pub first-length : length f₁ ≡ length f₀
  first-length = held_length p i hi f₀ f₁ (omega arith) e

  first-room : N ≤ length f₁
  first-room = omega (arith, first-length)

  pub rest_room : b.vertices ≤ length (rest b.vertices f₁ y (omega (arith, room, first-length)))
  rest_room = simp (length-take, length-drop) (omega (arith, first-length))

  module _ (q : y ≡ filled b.vertices (walk (longest (graph_of b.vertices t) b.vertices) j) (take (length f₁ - b.vertices) (drop b.vertices f₁))) where
    abbrev x : List ℤ
    x = put_mid N (length f₁ - N) f₁ y

    first_vector : (v : ℕ) → v < N → arrival_in x v ≡ walk (longest g N) i v
    first_vector v l = ap (read_cell absent_wide) (joined_low N f₁ y first-room v l) ∙ held_walk p i hi f₀ f₁ (omega arith) e v l

    second_vector : (v : ℕ) → v < N → arrival_in x (N + v) ≡ walk (longest g N) j v
    second_vector v l = ap (read_cell absent_wide) (joined_high N f₁ y first-room v) ∙ held_walk p j hj (rest N f₁ y first-room) y rest_room q v l

    both_length : length x ≡ length f₀
    both_length = same_len_mid N (length f₁ - N) f₁ y (held_length p j hj (rest N f₁ y first-room) y rest_room q) ∙ first-length

    pub both_vectors : TwoVectors b (put_mid b.vertices (length f₁ - b.vertices) f₁ y)
    both_vectors = record {
      room = omega (arith, both_length);
      near = λ v l. (subst (λ (d : Delay). T (fits arrival_limit d)) (sym (first_vector v l)) (walk_near p i hi v l), subst (λ (d : Delay). T (fits arrival_limit d)) (sym (second_vector v l)) (walk_near p j hj v l));
    }

    pub both_past : drop (b.vertices + b.vertices) (put_mid b.vertices (length f₁ - b.vertices) f₁ y) ≡ drop (b.vertices + b.vertices) f₀
    both_past =
        sym (drop-drop N N x) ∙ ap (drop N) (joined_drop N f₁ y first-room) ∙ held_past p j hj (rest N f₁ y first-room) y rest_room q ∙ ap (drop N) (rest_is N f₁ y first-room)
        ∙ drop-drop N N f₁ ∙ drop_further N (N + N) f₀ f₁ (omega arith) (held_past p i hi f₀ f₁ (omega arith) e)

    -- of two inputs: the matrix's rows
    pub both_common : i < b.inputs → j < b.inputs
        → common_difference b.outputs (λ k. arrival_in (put_mid b.vertices (length f₁ - b.vertices) f₁ y) (b.inputs + k)) (λ k. arrival_in (put_mid b.vertices (length f₁ - b.vertices) f₁ y) (b.vertices + (b.inputs + k)))
        ≡ common_difference b.outputs (matrix b.inputs b.vertices (graph_of b.vertices t) i) (matrix b.inputs b.vertices (graph_of b.vertices t) j)
    unfolding matrix
    both_common li lj = common_same b.outputs _ _ _ _ (λ k l.
        let below : m + k < N = omega (arith, b.sized.roles) in
        (first_vector (m + k) below ∙ walk_other (longest g N) i (m + k) (λ c. omega arith), second_vector (m + k) below ∙ walk_other (longest g N) j (m + k) (λ c. omega arith)))

-- ---- the outputs' cells of both
module _ (b : Board) (f : List ℤ) (w : TwoVectors b f) where
  abbrev pub outputs_first : List ℤ
  outputs_first = take (b.inputs + b.outputs - b.inputs) (drop b.inputs f)

  abbrev pub outputs_second : List ℤ
  outputs_second = take (b.vertices + b.inputs + b.outputs - (b.vertices + b.inputs)) (drop (b.vertices + b.inputs) f)

  size_first : length outputs_first ≡ b.outputs
  size_first = simp (length-take, length-drop) (omega (arith, w.room, b.sized.roles))

  size_second : length outputs_second ≡ b.outputs
  size_second = simp (length-take, length-drop) (omega (arith, w.room, b.sized.roles))

  at_first : (j : ℕ) → j < b.outputs → arrival_in outputs_first j ≡ arrival_in f (b.inputs + j)
  at_first j l = ap (read_cell absent_wide) (row_cell f b.inputs (b.inputs + b.outputs - b.inputs) j (pos 0) (omega arith))

  at_second : (j : ℕ) → j < b.outputs → arrival_in outputs_second j ≡ arrival_in f (b.vertices + (b.inputs + j))
  at_second j l =
      let s : b.vertices + b.inputs + j ≡ b.vertices + (b.inputs + j) = omega arith in
      ap (read_cell absent_wide) (row_cell f (b.vertices + b.inputs) (b.vertices + b.inputs + b.outputs - (b.vertices + b.inputs)) j (pos 0) (omega arith)) ∙ ap (arrival_in f) s

  pub outputs_comparable : Comparable outputs_first outputs_second
  outputs_comparable = record {
    long = size_first ∙ sym size_second;
    near_x = λ j l. let k : j < b.outputs = omega (arith, size_first) in subst (λ (d : Delay). T (fits arrival_limit d)) (sym (at_first j k)) (w.near (b.inputs + j) (omega (arith, b.sized.roles))).0;
    near_y = λ j l. let k : j < b.outputs = omega (arith, size_second) in subst (λ (d : Delay). T (fits arrival_limit d)) (sym (at_second j k)) (w.near (b.inputs + j) (omega (arith, b.sized.roles))).1;
  }

  pub outputs_common : common_difference (length outputs_first) (arrival_in outputs_first) (arrival_in outputs_second) ≡ common_difference b.outputs (λ j. arrival_in f (b.inputs + j)) (λ j. arrival_in f (b.vertices + (b.inputs + j)))
  outputs_common = ap (λ (n : ℕ). common_difference n (arrival_in outputs_first) (arrival_in outputs_second)) size_first ∙ common_same b.outputs _ _ _ _ (λ j l. (at_first j l, at_second j l))
