-- Rows of a table.
use mathlib.Core.Path.{◌≡◌, sym, ap, ◌∙◌}
use mathlib.Core.Bool.{Bool, ◌&&◌}
use mathlib.Core.List.{List}
use Prim.Native.Nat.{ℕ, ◌+◌, ◌*◌, ◌≤◌, ◌<◌}
use native.Mathlib.Numerals.{add-one}
use native.Mathlib.Omega.{arith}
use lib.IntN.{ℤ, pos}
use Rattle.laws.specs.Lists.{tabulate}
use Rattle.laws.proofs.Lists.{is_tabulate}
use Rattle.std.proofs.lemmas.List.{length-replicate, get_or-replicate}
use lib.ListN.{replicate, length, length-take, length-drop}
use native.Mathlib.Nat.{add_comm}
use Rattle.laws.specs.Bounded.{every, sum}
use Rattle.laws.proofs.Sums.{sum_eq, sum_bound}
use Rattle.graph.specs.Graph.{Graph}
use Rattle.graph.specs.Count.{bit, fan_out}
use Rattle.graph.proofs.Presence.{bit_le}
use Rattle.laws.proofs.Grid.{row_in, row_cell}
use Rattle.timing.specs.Limits.{absent_cell}
use Rattle.timing.specs.Table.{read_cell, graph_of}
use Rattle.timing.proofs.Table.{graph_of_at}
use Rattle.graph.specs.Delay.{Delay}
use Rattle.laws.proofs.Bounded.{every_same}
use Rattle.paths.specs.Cells.{cell_at, row_at}

-- a test of one cell more, where all are looked at
pub every_next : (f : ℕ → Bool) (i : ℕ) → every (i + 1) f ≡ (every i f && f i)
unfolding every
every_next f i = rw (add-one i)

-- a row of a table, cell by cell
pub row_at_cell : (N : ℕ) (t : List ℤ) (u v : ℕ) → u < N → v < N → cell_at (row_at N u t) v ≡ graph_of N t u v
row_at_cell N t u v l k = ap (read_cell absent_cell) (row_cell t (N * u) N v (pos 0) k) ∙ sym (graph_of_at N t u v l k)

pub length-row_at : {A : Type 0} (N : ℕ) (t : List A) (u : ℕ) → N * N ≤ length t → u < N → length (row_at N u t) ≡ N
length-row_at N t u room l = simp (length-take, length-drop) (omega (arith, row_in N u l))

-- a test of each of a row's cells
pub every_row : (f : Delay → Bool) (N : ℕ) (t : List ℤ) (u : ℕ) → N * N ≤ length t → u < N → every (length (row_at N u t)) (λ v. f (cell_at (row_at N u t) v)) ≡ every N (λ v. f (graph_of N t u v))
every_row f N t u room l =
    ap (λ (k : ℕ). every k (λ v. f (cell_at (row_at N u t) v))) (length-row_at N t u room l)
    ∙ every_same N _ _ (λ v k. ap f (row_at_cell N t u v l k))

pub replicate_is : {A : Type 0} (n : ℕ) (x : A) → replicate n x ≡ tabulate n (λ _. x)
replicate_is n x = is_tabulate x (replicate n x) n (λ _. x) (length-replicate n x) (λ i l. get_or-replicate n i x x l)

-- ---- the arcs of a row, and of a column, as `count` has them

pub row_counted : (n m : ℕ) (t : List ℤ) (u : ℕ) → u < n → m ≤ n → sum m (λ i. bit (cell_at t (n * u + 1 * i))) ≡ sum m (λ i. bit (graph_of n t u i))
row_counted n m t u l h =
    sum_eq m (λ i. bit (cell_at t (n * u + 1 * i))) (λ i. bit (graph_of n t u i))
    (λ i k. ap bit (ap (λ (x : ℕ). cell_at t (n * u + x)) (once i) ∙ sym (graph_of_at n t u i l (omega arith))))
  where
    once : (i : ℕ) → 1 * i ≡ i
    once i = omega arith

pub column_counted : (n : ℕ) (t : List ℤ) (v : ℕ) → v < n → sum n (λ i. bit (cell_at t (v + n * i))) ≡ sum n (λ i. bit (graph_of n t i v))
column_counted n t v l =
    sum_eq n (λ i. bit (cell_at t (v + n * i))) (λ i. bit (graph_of n t i v))
    (λ i k. ap bit (ap (cell_at t) (add_comm v (n * i)) ∙ sym (graph_of_at n t i v k l)))

-- a row has at most n arcs
pub fan_out_few : (n : ℕ) (g : Graph) (u : ℕ) → fan_out n g u ≤ n
unfolding fan_out
fan_out_few n g u = sum_bound n (λ v. bit (g u v)) (λ v. bit_le (g u v))
