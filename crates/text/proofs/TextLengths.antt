-- How many bytes the lines of a text have at the most.
use mathlib.Core.Path.{◌≡◌, refl, sym, ap, ◌∙◌}
use Rattle.std.proofs.lemmas.Grind.{flat_map-append}
use mathlib.Core.Bool.{Bool, cond}
use mathlib.Core.List.{List, [], ◌∷◌, ◌++◌}
use Prim.Native.Nat.{ℕ, zero, suc, ◌+◌, ◌*◌, ◌^◌, ◌≤◌, ◌<◌}
use native.Mathlib.Nat.{not-suc-le-zero}
use native.Mathlib.Decide.{ℕ_discrete}
use native.Mathlib.Omega.{arith}
use borrow.Author.Tests.{lt-ltb}
use lib.Dec.{T, ltb, ltb→lt, lt→ltb}
use lib.IntN.{ℤ, pos, negsuc}
use lib.ListN.{length, length-append}
use Rattle.laws.specs.Bounded.{first}
use Rattle.laws.proofs.Booleans.{cond_elim}
use Rattle.laws.proofs.Bounded.{first_below}
use Rattle.graph.specs.Delay.{Delay, absent, at}
use Rattle.graph.specs.Graph.{Graph}
use Rattle.graph.specs.Count.{arcs}
use Rattle.timing.proofs.Most.{arcs-most}
use Rattle.paths.specs.declared.board.Board.{Board}
use Rattle.paths.specs.Board.{graph_in, sizes_of}
use Rattle.paths.specs.Checked.{Checked}
use Rattle.timing.specs.Checks.{BoardSizes}
use Rattle.format.specs.Arcs.{Arc, arc_in, row_arcs, arcs_between, arcs_of}
use Rattle.format.specs.Text.{digits, digits_of, decimal, signed_decimal, words, board_line, arc_line, counts_line, refused_line, arc_lines, reduced_text}
use Rattle.files.proofs.ArcForms.{lines_are}
use Rattle.files.proofs.ArcParts.{arcs_count}

first-most : (n : ℕ) (f : ℕ → Bool) → first n f ≤ n
unfolding first
first-most zero f = omega arith
first-most (suc n) f =
    cond_elim (λ (r : ℕ). r ≤ suc n) (ltb (first n f) n) (first n f) (cond (f n) n (suc n)) (λ b. omega (arith, ltb→lt (first n f) n b))
    (λ _. cond_elim (λ (r : ℕ). r ≤ suc n) (f n) n (suc n) (λ _. omega arith) (λ _. omega arith))

first_by : (n : ℕ) (f : ℕ → Bool) (i : ℕ) → i < n → T (f i) → first n f ≤ i
unfolding first
first_by zero f i l h = absurd (not-suc-le-zero l)
first_by (suc n) f i l h = go (first_by n f i) (ℕ_discrete i n)
  where
    go : (i < n → T (f i) → first n f ≤ i) → Dec (i ≡ n) → cond (ltb (first n f) n) (first n f) (cond (f n) n (suc n)) ≤ i
    go ih (yes e) = omega (arith, first_below (suc n) f i l h)
    go ih (no q) = let k : first n f ≤ i = ih (omega arith) h in simp (lt-ltb (first n f) n (omega arith)) k

digits-length : (k n : ℕ) → length (digits k n) ≡ k
unfolding digits
digits-length zero n = refl
digits-length (suc k) n = ap suc (digits-length k n)

decimal-most : (n : ℕ) → length (decimal n) ≤ 10
unfolding digits_of
decimal-most n = omega (arith, digits-length (digits_of n) n, first-most 9 (λ k. ltb n (10 ^ suc k)))

-- a number that is known to be small
decimal_short : (k n : ℕ) → k < 9 → n < 10 ^ suc k → length (decimal n) ≤ suc k
unfolding digits_of
decimal_short k n l h = omega (arith, digits-length (digits_of n) n, first_by 9 (λ j. ltb n (10 ^ suc j)) k l (lt→ltb n (10 ^ suc k) h))

two_digits : (n : ℕ) → n < 100 → length (decimal n) ≤ 2
two_digits n h = decimal_short 1 n (omega arith) h

four_digits : (n : ℕ) → n < 10 ^ 4 → length (decimal n) ≤ 4
four_digits n h = decimal_short 3 n (omega arith) h

signed_most : (z : ℤ) → length (signed_decimal z) ≤ 11
signed_most (pos n) = omega (arith, decimal-most n)
signed_most (negsuc n) = omega (arith, decimal-most (suc n))

-- ---- words

end_length : length (words []) ≡ 1
unfolding words
end_length = refl

word_length : (w : List ℕ) (ws : List (List ℕ)) → length (words (w ∷ ws)) ≡ suc (length w + length (words ws))
unfolding words
word_length w ws = ap suc (length-append w (words ws))

-- three numbers, and two around a word
three_length : (x y z : List ℕ) → length (words (x ∷ y ∷ z ∷ [])) ≡ 4 + length x + length y + length z
three_length x y z = omega (arith, word_length x (y ∷ z ∷ []), word_length y (z ∷ []), word_length z [], end_length)

-- ---- lines

pub board-most : (b : BoardSizes) → b.inputs < 100 → b.outputs < 100 → b.vertices < 100 → length (board_line b) ≤ 15
board-most b i o v = omega (arith, three_length (decimal b.inputs) (decimal b.outputs) (decimal b.vertices), two_digits b.inputs i, two_digits b.outputs o, two_digits b.vertices v)

arc_most : (a : Arc) → a.from < 100 → a.to < 100 → length (arc_line a) ≤ 22
arc_most a u v = omega (arith, three_length (decimal a.from) (decimal a.to) (signed_decimal a.delay), two_digits a.from u, two_digits a.to v, signed_most a.delay)

pub counts_most : (steps left : ℕ) → steps < 10 ^ 4 → left < 10 ^ 4 → length (counts_line steps left) ≤ 24
counts_most steps left s l = omega (arith, three_length (decimal steps) (97 ∷ 114 ∷ 99 ∷ 115 ∷ []) (decimal left), four_digits steps s, four_digits left l)

pub refused_most : (r p : ℕ) → length (refused_line r p) ≤ 33
refused_most r p = omega (arith, three_length (decimal r) (97 ∷ 116 ∷ []) (decimal p), decimal-most r, decimal-most p)

-- ---- the arcs' lines

lines_more : (xs ys : List Arc) → arc_lines (xs ++ ys) ≡ arc_lines xs ++ arc_lines ys
lines_more xs ys = sym (lines_are (xs ++ ys)) ∙ flat_map-append arc_line xs ys ∙ (λ i. lines_are xs i ++ lines_are ys i)

record Short (xs : List Arc) : Type 0 where
  most : length (arc_lines xs) ≤ 22 * length xs

short_none : Short []
unfolding arc_lines
short_none = record { most = omega arith }

short_more : (xs ys : List Arc) → Short xs → Short ys → Short (xs ++ ys)
short_more xs ys a b = record { most = omega (arith, a.most, b.most, ap length (lines_more xs ys), length-append (arc_lines xs) (arc_lines ys), length-append xs ys) }

short_cell : (u v : ℕ) (d : Delay) → u < 100 → v < 100 → Short (arc_in u v d)
unfolding arc_lines
short_cell u v absent h k = short_none
short_cell u v (at z) h k =
    let a : Arc = record { from = u; to = v; delay = z } in
    record { most = omega (arith, length-append (arc_line a) [], arc_most a h k) }

module _ (N : ℕ) (g : Graph) (few : N ≤ 100) where
  short_row : (u v c : ℕ) → u < 100 → v + c ≤ N → Short (row_arcs g u v c)
  unfolding row_arcs
  short_row u v zero h k = short_none
  short_row u v (suc c) h k = short_more (arc_in u v (g u v)) (row_arcs g u (suc v) c) (short_cell u v (g u v) h (omega arith)) (short_row u (suc v) c h (omega arith))

  short_rows : (u c : ℕ) → u + c ≤ N → Short (arcs_between N g u c)
  unfolding arcs_between
  short_rows u zero k = short_none
  short_rows u (suc c) k = short_more (row_arcs g u 0 N) (arcs_between N g (suc u) c) (short_row u 0 N (omega arith) (omega arith)) (short_rows (suc u) c (omega arith))

  pub lines_most : length (arc_lines (arcs_of N g)) ≤ 22 * arcs N g
  lines_most = omega (arith, (short_rows 0 N (omega arith)).most, arcs_count N g)

pub parts_length : (xs ys zs : List ℕ) → length (xs ++ ys ++ zs) ≡ length xs + length ys + length zs
parts_length xs ys zs = omega (arith, length-append (xs ++ ys) zs, length-append xs ys)

pub reduced_most : {b : Board} {t : List ℤ} → Checked b t → (steps left : ℕ) → steps < 10 ^ 4 → left < 10 ^ 4 → length (reduced_text (sizes_of b) (record { table = t; steps = steps; arcs_left = left })) ≤ 88149
reduced_most {b} {t} k steps left s l =
    let z = b.sized in
    let g = graph_in b t in
    let xs = arc_lines (arcs_of b.vertices g) in
    omega (
      arith,
      parts_length (board_line (sizes_of b)) xs (counts_line steps left),
      board-most (sizes_of b) (omega (arith, z.roles, z.few)) (omega (arith, z.roles, z.few)) (omega (arith, z.few)),
      lines_most b.vertices g (omega (arith, z.few)),
      arcs-most b.vertices k.sound.acyclic z.few,
      counts_most steps left s l,
    )
