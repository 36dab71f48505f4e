-- The cells that are shown to a call are all that it looks at: the checks say the same of them as of the whole runs.
use mathlib.Core.Path.{◌≡◌, refl, sym, ap, ◌∙◌, fun_ext}
use mathlib.Core.Bool.{true, cond, ◌&&◌}
use mathlib.Core.List.{List}
use Prim.Native.Nat.{ℕ, ◌+◌, ◌*◌, ◌≤◌, ◌<◌, min}
use native.Mathlib.Decide.{dec_le}
use native.Mathlib.Omega.{arith}
use borrow.Author.Tests.{lt-leb, le-leb}
use lib.Dec.{T, leb, ltb, leb→le, ltb→lt}
use lib.IntN.{ℤ, pos}
use lib.ListN.{length, get_or, take}
use lib.Seq.{length-take-le}
use Rattle.laws.specs.Lists.{tabulate}
use Rattle.laws.proofs.Booleans.{and_e, cond_elim, cases, true_is}
use Rattle.laws.proofs.Lists.{length-tabulate, get_d_tabulate}
use Rattle.laws.proofs.Grid.{row_in}
use Rattle.graph.specs.Delay.{absent}
use Rattle.graph.specs.Graph.{Graph}
use Rattle.timing.specs.declared.Refusal.TheVariants.{OddCell}
use Rattle.timing.specs.Limits.{max_vertices, absent_cell, scratch_cells}
use Rattle.timing.specs.Refusal.{Verdict, refused, accepted, require, ◌then◌}
use Rattle.timing.specs.Table.{read_cell, graph_of}
use Rattle.timing.specs.Checks.{sizes_fit, scratch_fits, cells_fit, memory_checked, arcs_checked, checked}
use Rattle.timing.proofs.Checks.{memory_accepted, memory_same, checked_same_scratch}
use Rattle.timing.proofs.Most.{pairs-most}
use Rattle.host.specs.Runs.{whole_cells, run_cell, cells_of}
use Rattle.host.specs.Shown.{shown, most_pairs}
use Rattle.host.proofs.Kept.{length-cells, cell_of}

pub shown_is : (r c cells : ℕ) → r ≤ max_vertices → c ≤ max_vertices → shown r c cells ≡ min cells (r * c)
unfolding shown
shown_is r c cells h k = simp (le-leb r max_vertices h, le-leb c max_vertices k)

-- what is shown is long enough exactly where the run is
pub shown_enough : (r c cells : ℕ) → r ≤ max_vertices → c ≤ max_vertices → leb (r * c) (shown r c cells) ≡ leb (r * c) cells
shown_enough r c cells h k = go (dec_le (r * c) cells)
  where
    go : Dec (r * c ≤ cells) → leb (r * c) (shown r c cells) ≡ leb (r * c) cells
    go (yes e) = le-leb (r * c) _ (omega (arith, shown_is r c cells h k)) ∙ sym (le-leb (r * c) cells e)
    go (no n) = lt-leb (r * c) _ (omega (arith, shown_is r c cells h k)) ∙ sym (lt-leb (r * c) cells (omega arith))

-- never more than there are
pub shown_le : (r c cells : ℕ) → shown r c cells ≤ cells
unfolding shown
shown_le r c cells = cond_elim (λ (x : ℕ). x ≤ cells) (leb r max_vertices && leb c max_vertices) (min cells (r * c)) 0 (λ _. omega arith) (λ _. omega arith)

-- what check 1 says of the sizes
pub record Small (m n N : ℕ) : Type 0 where
  pub inputs : m ≤ max_vertices
  pub outputs : n ≤ max_vertices
  pub vertices : N ≤ max_vertices
  pub pairs : m * n ≤ most_pairs

pub small : (m n N : ℕ) → T (sizes_fit m n N) → Small m n N
unfolding sizes_fit
small m n N t =
    let p = and_e (leb 1 m && leb 1 n && leb (m + n) N) (leb N max_vertices) t in
    let few = leb→le N max_vertices p.1 in
    let roles = leb→le (m + n) N (and_e (leb 1 m && leb 1 n) (leb (m + n) N) p.0).1 in
    record { inputs = omega arith; outputs = omega arith; vertices = few; pairs = pairs-most m n (omega arith) }

-- t' has the first cells of t
pub record Front (t' t : List ℤ) : Type 0 where
  pub same : (i : ℕ) → i < length t' → get_or t' i (pos 0) ≡ get_or t i (pos 0)

graph_same : (N : ℕ) (t' t : List ℤ) → Front t' t → N * N ≤ length t' → graph_of N t' ≡ graph_of N t
unfolding graph_of
graph_same N t' t f h = fun_ext (λ u. fun_ext (λ v. cases (ltb u N && ltb v N) (inside u v) (λ e. simp e)))
  where
    inside : (u v : ℕ) → (ltb u N && ltb v N) ≡ true
        → cond (ltb u N && ltb v N) (read_cell absent_cell (get_or t' (N * u + v) (pos 0))) absent ≡ cond (ltb u N && ltb v N) (read_cell absent_cell (get_or t (N * u + v) (pos 0))) absent
    inside u v e =
        let p = and_e (ltb u N) (ltb v N) (true_is e) in
        let lu = ltb→lt u N p.0 in
        let lv = ltb→lt v N p.1 in
        ap (λ (z : ℤ). cond (ltb u N && ltb v N) (read_cell absent_cell z) absent) (f.same (N * u + v) (omega (arith, row_in N u lu)))

-- checks 4, 5 and 6
abbrev graph_checks : ℕ → ℕ → Graph → Verdict Graph
graph_checks m N g = require (cells_fit N g) OddCell (arcs_checked m N g)

pub checked_same : (m n N s : ℕ) (t' t : List ℤ) → Front t' t → length t' ≡ shown N N (length t) → checked m n N s t' ≡ checked m n N s t
unfolding checked
checked_same m n N s t' t f e = ap (λ (v : Verdict (Unit {0})). v then λ _. graph_checks m N (graph_of N t')) memory ∙ of (memory_checked m n N s t) refl
  where
    memory : memory_checked m n N s t' ≡ memory_checked m n N s t
    memory = memory_same m n N s s t' t (λ p. let q = (small m n N p).vertices in (ap (leb (N * N)) e ∙ shown_enough N N (length t) q q, refl))

    of : (v : Verdict (Unit {0})) → memory_checked m n N s t ≡ v → (v then λ _. graph_checks m N (graph_of N t')) ≡ (v then λ _. graph_checks m N (graph_of N t))
    of (refused r) k = refl
    of (accepted x) k =
        let p = memory_accepted m n N s t x k in
        let q = (small m n N p.sizes).vertices in
        ap (graph_checks m N) (graph_same N t' t f (omega (arith, e, shown_is N N (length t) q q, leb→le (N * N) (length t) p.table)))

-- of a scratch no more cells are lent on than a board can use
abbrev pub lent_on : ℕ → ℕ
lent_on s = min s (scratch_cells max_vertices)

pub checked-room : (m n N s : ℕ) (t : List ℤ) → checked m n N (lent_on s) t ≡ checked m n N s t
checked-room m n N s t = checked_same_scratch m n N (lent_on s) s t (λ p. enough (small m n N p).vertices (dec_le (scratch_cells N) s))
  where
    enough : N ≤ max_vertices → Dec (scratch_cells N ≤ s) → scratch_fits N (lent_on s) ≡ scratch_fits N s
    enough h (yes e) = le-leb (scratch_cells N) _ (omega arith) ∙ sym (le-leb (scratch_cells N) s e)
    enough h (no n) = lt-leb (scratch_cells N) _ (omega arith) ∙ sym (lt-leb (scratch_cells N) s (omega arith))

-- t' is the copy of a table's cells that the calls below get
pub record Copy (N : ℕ) (s : List ℕ) (t' : List ℤ) : Type 0 where
  pub front : Front t' (cells_of 4 s)
  pub long : length t' ≡ shown N N (length (cells_of 4 s))

pub copied : (N : ℕ) (s : List ℕ) (t' : List ℤ) (k : ℕ) → t' ≡ tabulate k (run_cell 4 s) → k ≡ shown N N (whole_cells 4 s) → Copy N s t'
copied N s t' k e h = record {
  front = record { same = λ i l. ap (λ (x : List ℤ). get_or x i (pos 0)) e ∙ get_d_tabulate (run_cell 4 s) k i (pos 0) (omega (arith, len)) ∙ sym (cell_of 4 s i (omega (arith, len, shown_le N N (whole_cells 4 s)))) };
  long = len ∙ h ∙ ap (shown N N) (sym (length-cells 4 s));
}
  where
    len : length t' ≡ k
    len = ap length e ∙ length-tabulate (run_cell 4 s) k

-- ---- local room of which k cells are lent on
module _ {A : Type 0} (l : List A) (k : ℕ) {most : ℕ} (all : length l ≡ most) where
  pub part_long : k ≤ most → length (take k l) ≡ k
  part_long h = length-take-le k l (omega arith)

  pub part_shown : (x : ℕ) → (k ≡ x) × (k ≤ most) → length (take k l) ≡ x
  part_shown x p = part_long p.1 ∙ p.0
