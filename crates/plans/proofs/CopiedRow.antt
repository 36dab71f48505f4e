-- A row of the table, lent, beside a row that was copied first.
use mathlib.Core.Path.{◌≡◌, sym, ap, ◌∙◌, subst}
use mathlib.Core.List.{List, ◌++◌}
use Prim.Native.Nat.{ℕ, ◌+◌, ◌-◌, ◌*◌, ◌≤◌, ◌<◌}
use native.Mathlib.Omega.{arith}
use lib.Dec.{T}
use lib.IntN.{ℤ, pos}
use lib.ListN.{length, get_or, take, drop, length-take, length-drop}
use Rattle.laws.specs.Bounded.{every}
use Rattle.laws.proofs.Booleans.{true_is, is_true}
use Rattle.laws.proofs.Bounded.{every_all}
use Rattle.laws.specs.Lists.{rows}
use Rattle.laws.proofs.Filling.{row_lent}
use Rattle.laws.proofs.Grid.{row_in, row_cell}
use Rattle.graph.specs.Delay.{Delay, ◌⊕◌}
use Rattle.timing.specs.Limits.{max_vertices, delay_limit, absent_cell, fits}
use Rattle.timing.specs.Table.{read_cell, graph_of}
use Rattle.timing.proofs.Table.{graph_of_at}
use Rattle.paths.specs.Cells.{cell_at, row_at}
use Rattle.plans.specs.ShrunkRow.{sums_fit}
use Rattle.plans.specs.Rewritten.{Copied, RowOf}
use Rattle.paths.proofs.Rows.{row_at_cell, length-row_at, every_row}

-- row is the row of k, and via begins with its cells
module _ {N : ℕ} {t row via : List ℤ} (few : N ≤ max_vertices) (room : N * N ≤ length t) where
  pub copied : (k : ℕ) → k < N → row ≡ row_at N k t → ((v : ℕ) → v < length row → get_or via v (pos 0) ≡ get_or row v (pos 0)) → Copied N t via k
  copied k l is same =
      let long : length row ≡ N = ap length is ∙ length-row_at N t k room l in
      record {
        few = few;
        room = room;
        inside = l;
        same = λ v h. ap (read_cell absent_cell) (same v (omega (arith, long))) ∙ ap (λ (r : List ℤ). cell_at r v) is ∙ row_at_cell N t k v l h;
      }

  -- beside the row of u, lent out of x, whose rows from u on are t's
  pub row_of : {x : List ℤ} (new : ℕ → ℕ → ℤ) (origin k u : ℕ) → k < N → k ≡ origin → row ≡ row_at N k t → ((v : ℕ) → v < length row → get_or via v (pos 0) ≡ get_or row v (pos 0))
      → u < N → x ≡ rows N u new ++ drop (N * u) t → RowOf N t via origin u (take (N * u + N - N * u) (drop (N * u) x))
  row_of {x} new origin k u inside e row_is same below is = record { copied = subst (Copied N t via) e (copied k inside row_is same); below = below; is = row_lent N new t x u is }

-- x is row u
module _ {N : ℕ} {t via : List ℤ} {k : ℕ} (c : Copied N t via k) (u : ℕ) (l : u < N) (x : List ℤ) (e : x ≡ take N (drop (N * u) t)) where
  pub row_size : length x ≡ N
  row_size = ap length e ∙ simp (length-take, length-drop) (omega (arith, row_in N u l, c.room))

  pub lent_at : (v : ℕ) → v < N → cell_at x v ≡ graph_of N t u v
  lent_at v h = ap (λ (r : List ℤ). cell_at r v) e ∙ ap (read_cell absent_cell) (row_cell t (N * u) N v (pos 0) h) ∙ sym (graph_of_at N t u v l h)

-- a row of a table in range
pub row_fits : (N : ℕ) (t : List ℤ) (u : ℕ) (row : List ℤ) → row ≡ row_at N u t → N * N ≤ length t → u < N → ((u v : ℕ) → T (fits delay_limit (graph_of N t u v))) → T (every (length row) (λ v. fits delay_limit (cell_at row v)))
row_fits N t u row is room l h =
    subst (λ (r : List ℤ). T (every (length r) (λ v. fits delay_limit (cell_at r v)))) (sym is) (true_is (every_row (fits delay_limit) N t u room l ∙ is_true _ (every_all N _ (λ v _. h u v))))

-- the sums of a delay and a row's
pub sums_row : (into : Delay) (N : ℕ) (t : List ℤ) (u : ℕ) (row : List ℤ) → row ≡ row_at N u t → N * N ≤ length t → u < N → sums_fit (length row) into row ≡ every N (λ v. fits delay_limit (into ⊕ graph_of N t u v))
sums_row into N t u row is room l = ap (λ (r : List ℤ). sums_fit (length r) into r) is ∙ every_row (λ d. fits delay_limit (into ⊕ d)) N t u room l
