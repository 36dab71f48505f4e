-- The bytes past the cells that a C call uses are as they were.
use mathlib.Core.Path.{◌≡◌, refl, sym, ap, ◌∙◌}
use mathlib.Core.List.{List, ◌++◌}
use Prim.Native.Nat.{ℕ, ◌+◌, ◌-◌, ◌*◌, ◌≤◌}
use native.Mathlib.Nat.{mul-le-mul_left}
use native.Mathlib.Omega.{arith}
use lib.Dec.{leb, leb→le}
use lib.IntN.{ℤ}
use lib.ListN.{length, get_or, drop, length-append, length-drop}
use lib.Seq.{get_or-drop, get_or-append-add}
use Rattle.laws.specs.Lists.{rows}
use Rattle.laws.proofs.Lists.{length-rows}
use Rattle.timing.specs.declared.Refusal.TheVariants.{DestinationShort}
use Rattle.timing.specs.Limits.{absent_cell}
use Rattle.timing.specs.Refusal.{Verdict, refused, accepted}
use Rattle.timing.specs.Table.{write_cell, with_graph}
use Rattle.timing.specs.Checks.{checked}
use Rattle.timing.specs.Delays.{matrix_cells}
use Rattle.timing.specs.Queries.{matrix_into, matrix_call}
use Rattle.timing.proofs.Checks.{checked_accepted}
use Rattle.timing.proofs.Verdict.{require_accepted, then_accepted, same_accepted}
use Rattle.reduction.specs.Outcome.{Reduced}
use Rattle.reduction.specs.Steps.{plan, step_call}
use Rattle.host.specs.Runs.{whole_cells, cells_of, cell_byte, with_cells}
use Rattle.host.specs.Answers.{matrix_bytes, matrix_over, table_bytes, step_over}
use Rattle.host.specs.Beyond.{Bytes, SameBeyond, MatrixBeyond, TableBeyond}
use Rattle.host.proofs.Kept.{length-cells, rest_kept}
use Rattle.host.proofs.Matrices.{length-matrix}

untouched : (w k : ℕ) (s : List ℕ) → SameBeyond w k s s
untouched w k s = record { length_kept = refl; kept = λ i h. refl }

past : (w k : ℕ) (s : List ℕ) (f : ℕ → ℕ → ℕ) → w * k ≤ length s → SameBeyond w k s (rows w k f ++ drop (w * k) s)
past w k s f room = record {
  length_kept = simp (length-append, length-rows, length-drop) (omega arith);
  kept = λ i h. let e : w * k + (i - w * k) ≡ i = omega arith in rw e at (at_least (i - w * k));
}
  where
    at_least : (d : ℕ) → get_or (rows w k f ++ drop (w * k) s) (w * k + d) 0 ≡ get_or s (w * k + d) 0
    at_least d =
        ap (λ (j : ℕ). get_or (rows w k f ++ drop (w * k) s) (j + d) 0) (sym (length-rows w f k))
        ∙ get_or-append-add (rows w k f) (drop (w * k) s) d 0 ∙ get_or-drop (w * k) s d 0

-- k cells, and then the run's own, put into the run
beyond_cells : (w k : ℕ) (s : List ℕ) → Bytes s → w * whole_cells w s ≤ length s → (a : List ℤ) → length a ≡ k → k ≤ whole_cells w s → SameBeyond w k s (with_cells w (a ++ drop k (cells_of w s)) s)
unfolding with_cells
beyond_cells w k s b inside a e few =
    let own : with_cells w (a ++ drop (length a) (cells_of w s)) s ≡ with_cells w a s = rest_kept w s (λ j. record { fits = b j }) a inside (omega arith) in
    let new : with_cells w (a ++ drop k (cells_of w s)) s ≡ rows w k (cell_byte w a) ++ drop (w * k) s =
    ap (λ (i : ℕ). with_cells w (a ++ drop i (cells_of w s)) s) (sym e) ∙ own ∙ ap (λ (i : ℕ). rows w i (cell_byte w a) ++ drop (w * i) s) e in
    rw new (past w k s (cell_byte w a) (omega (arith, inside, mul-le-mul_left w few)))

pub matrix_beyond : MatrixBeyond
unfolding matrix_call matrix_into
matrix_beyond m n N table scratch matrix b = of (matrix_over m n N table scratch matrix) refl
  where
    own : List ℤ
    own = cells_of 8 matrix

    of : (v : Verdict (List ℤ)) → matrix_over m n N table scratch matrix ≡ v → SameBeyond 8 (m * n) matrix (matrix_bytes v matrix)
    of (refused r) e = untouched 8 (m * n) matrix
    of (accepted cells) e =
        let p = then_accepted (checked m n N (whole_cells 8 scratch) (cells_of 4 table)) (matrix_into m n N own) cells e in
        let q = require_accepted (leb (m * n) (length own)) DestinationShort _ cells p.2 in
        rw (sym (same_accepted q.1))
        (beyond_cells 8 (m * n) matrix b (omega arith) (matrix_cells m n N p.0) (length-matrix m n N p.0) (omega (arith, leb→le (m * n) (length own) q.0, length-cells 8 matrix)))

pub table_beyond : TableBeyond
unfolding step_call with_graph
table_beyond m n N q table scratch b = of (step_over m n N q table scratch) refl
  where
    own : List ℤ
    own = cells_of 4 table

    of : (v : Verdict Reduced) → step_over m n N q table scratch ≡ v → SameBeyond 4 (N * N) table (table_bytes v table)
    of (refused r) e = untouched 4 (N * N) table
    of (accepted x) e =
        let p = then_accepted (checked m n N (whole_cells 8 scratch) own) _ x e in
        let r = then_accepted (plan m n N q p.0) _ x p.2 in
        let long = leb→le (N * N) (length own) (checked_accepted m n N (whole_cells 8 scratch) own p.0 p.1).good.table in
        rw (sym (same_accepted r.2))
        (beyond_cells 4 (N * N) table b (omega arith) (rows N N (λ u v. write_cell absent_cell (r.0 u v))) (length-rows N _ N) (omega (arith, long, length-cells 4 table)))
