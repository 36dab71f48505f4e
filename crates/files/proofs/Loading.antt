-- The records after the first: the answer and the table, from the answers of the parts.
use Rattle.files.specs.declared.answer.Fault.{Fault}
use Rattle.std.specs.Prelude.{Err, Ok, Result}
use mathlib.Core.Path.{◌≡◌, sym, ap, ◌∙◌}
use mathlib.Core.List.{List, ◌++◌}
use Prim.Native.Nat.{ℕ}
use native.Mathlib.Omega.{arith}
use lib.IntN.{ℤ}
use Rattle.laws.specs.Lists.{rows}
use Rattle.graph.specs.Delay.{absent, at}
use Rattle.graph.specs.Graph.{Graph}
use Rattle.timing.specs.declared.Refusal.{Refusal}
use Rattle.timing.specs.Limits.{absent_cell}
use Rattle.timing.specs.Refusal.{number, Verdict, refused, accepted, verdict, on_value}
use Rattle.timing.specs.Table.{write_cell, graph_of, with_graph}
use Rattle.timing.specs.Checks.{arcs_checked, BoardSizes}
use Rattle.timing.proofs.Checks.{arcs_accepted}
use Rattle.timing.proofs.Verdict.{then_accepted}
use Rattle.timing.proofs.Table.{graph_of_with_graph, drop-with_graph}
use Rattle.format.specs.Reading.{Reading, stopped, got, placed, opened, board_records, arcs_worked, file_loads, with_record, no_arcs, file_graph, file_checked, arcs_read, read_call, graph_read, table_read}
use Rattle.paths.specs.declared.table.Table.{Table}
use Rattle.paths.specs.Tables.{timing_graph}
use Rattle.paths.specs.declared.board.Board.{Board}
use Rattle.paths.specs.Board.{graph_in, sizes_of}
use Rattle.paths.specs.Checked.{ArcsChecking}
use Rattle.files.specs.Loads.{loads_of}
use Rattle.files.specs.Place.{all_placed}
use Rattle.files.specs.Scan.{scan_meaning}
use Rattle.files.specs.Read.{passed, Loads}
use Rattle.format.proofs.Readings.{next_on, next_off}

-- ---- tables

-- a graph written over another
pub written_over : (N : ℕ) (g h : Graph) (t : List ℤ) → with_graph N g (with_graph N h t) ≡ with_graph N g t
unfolding with_graph
written_over N g h t = ap (λ (r : List ℤ). rows N N (λ u v. write_cell absent_cell (g u v)) ++ r) (drop-with_graph N h t)

pub blank_graph : (N : ℕ) (t : List ℤ) → graph_of N (with_graph N no_arcs t) ≡ no_arcs
blank_graph N t = graph_of_with_graph N no_arcs t (record { in_range = λ u v k. absurd k }) (λ u v z e. absurd (never z e))
  where
    never : (z : ℤ) → absent ≡ at z → ⊥
    never z e = let q : ◌≡◌ {A = ℕ} 0 1 = cc in omega arith

-- ---- the arcs, in a table without arcs, then 5 and 6

module _ (lib : List ℤ) (x : Table) (s l : List ℕ) (t : List ℤ) (loads : loads_of l ≡ file_loads x.board.vertices s) (empty : graph_in x.board t ≡ no_arcs)
    (graph : timing_graph x ≡ all_placed lib x.board.vertices s (loads_of l) t) (table : x.cells.now ≡ with_graph x.board.vertices (all_placed lib x.board.vertices s (loads_of l) t) t)
    (r : Result (List ℕ) Refusal) (said : ArcsChecking x r) where
  abbrev b : Board
  b = x.board

  abbrev t₁ : List ℤ
  t₁ = x.cells.now

  abbrev m : ℕ
  m = b.inputs

  abbrev n : ℕ
  n = b.vertices

  file_graph_lem : all_placed lib x.board.vertices s (loads_of l) t ≡ file_graph lib x.board.vertices s
  unfolding file_graph
  file_graph_lem i = arcs_worked (with_record lib (loads i)) n s (empty i)

  answer : on_value (λ _. tt {0}) (arcs_checked x.board.inputs x.board.vertices (file_graph lib x.board.vertices s)) ≡ on_value (λ _. tt {0}) (verdict r)
  answer = sym (said.answer ∙ ap (λ (g : Graph). on_value (λ _. tt {0}) (arcs_checked m n g)) (graph ∙ file_graph_lem))

  pub filled : (o : List ℕ) → r ≡ Ok o → Loads x.board.vertices (file_checked lib (sizes_of x.board) s) t x.cells.now (Ok tt)
  filled o e = record { answer = sym (ap passed found); table = table ∙ ap (λ (g : Graph). with_graph n g t) (file_graph_lem ∙ sym (ap graph_read found)) }
    where
      found : file_checked lib (sizes_of x.board) s ≡ got (file_graph lib x.board.vertices s)
      found =
          let p = then_accepted (arcs_checked m n (file_graph lib n s)) _ (tt {0}) (answer ∙ ap (λ (q : Result (List ℕ) Refusal). on_value (λ _. tt {0}) (verdict q)) e) in
          ap (placed 0) (p.1 ∙ ap accepted (sym (arcs_accepted m n (file_graph lib n s) p.0 p.1).same))

  pub emptied : (f : Refusal) → r ≡ Err f → (t₂ : List ℤ) → t₂ ≡ with_graph x.board.vertices no_arcs x.cells.now → Loads x.board.vertices (file_checked lib (sizes_of x.board) s) t t₂ (Err (record { refusal = f; at = 0 }))
  emptied f e t₂ q = record {
    answer = sym (ap passed found);
    table = q ∙ ap (with_graph n no_arcs) table ∙ written_over n no_arcs (all_placed lib n s (loads_of l) t) t ∙ ap (λ (y : Reading Graph). with_graph n (graph_read y) t) (sym found);
  }
    where
      go : (v : Verdict Graph) → on_value (λ _. tt {0}) v ≡ refused (number f) → placed 0 v ≡ stopped (number f) 0
      go (refused y) z = (cc)
      go (accepted y) z = absurd (let w : ◌≡◌ {A = ℕ} 0 1 = cc in omega arith)

      found : file_checked lib (sizes_of x.board) s ≡ stopped (number f) 0
      found = go (arcs_checked m n (file_graph lib n s)) (answer ∙ ap (λ (q : Result (List ℕ) Refusal). on_value (λ _. tt {0}) (verdict q)) e)

-- ---- the records, then the arcs

module _ (lib : List ℤ) (b : BoardSizes) (s : List ℕ) (t t₁ : List ℤ) (blank : t₁ ≡ with_graph b.vertices no_arcs t)
    (r : Result (Unit {0}) Fault) (said : scan_meaning r ≡ board_records lib b.vertices s) where
  abbrev N : ℕ
  N = b.vertices

  abbrev found : Reading Graph
  found = file_checked lib b s

  read_on : r ≡ Ok tt → arcs_read lib b s ≡ found
  unfolding arcs_read
  read_on e = simp (sym said ∙ ap scan_meaning e)

  read_off : (f : Fault) → r ≡ Err f → arcs_read lib b s ≡ stopped (number f.refusal) f.at
  unfolding arcs_read
  read_off f e = simp (sym said ∙ ap scan_meaning e)

  pub loaded : r ≡ Ok tt → (t₂ : List ℤ) (x : Result (Unit {0}) Fault) → Loads b.vertices (file_checked lib b s) t₁ t₂ x → Loads b.vertices (arcs_read lib b s) t t₂ x
  loaded e t₂ x h = record {
    answer = h.answer ∙ ap passed (sym (read_on e));
    table = h.table ∙ ap (with_graph N (graph_read found)) blank ∙ written_over N (graph_read found) no_arcs t ∙ ap (λ (y : Reading Graph). with_graph N (graph_read y) t) (sym (read_on e));
  }

  pub not-loaded : (f : Fault) → r ≡ Err f → Loads b.vertices (arcs_read lib b s) t t₁ r
  not-loaded f e = record {
    answer = ap scan_meaning e ∙ ap passed (sym (read_off f e));
    table = blank ∙ ap (λ (y : Reading Graph). with_graph N (graph_read y) t) (sym (read_off f e));
  }

-- ---- the call

module _ (lib : List ℤ) (s : List ℕ) (t : List ℤ) (k : ℕ) where
  pub call_stopped : (r p : ℕ) → opened lib s t k ≡ stopped r p → (read_call lib s t k ≡ stopped r p) × (table_read lib s t k ≡ t)
  unfolding read_call table_read
  call_stopped r p e = (simp e, simp e)

  module _ (b : BoardSizes) (e : opened lib s t k ≡ got b) (t₂ : List ℤ) (x : Result (Unit {0}) Fault) (h : Loads b.vertices (arcs_read lib b s) t t₂ x) where
    pub call_table : t₂ ≡ table_read lib s t k
    unfolding table_read
    call_table = h.table ∙ sym (simp e)

    pub call_done : x ≡ Ok tt → got b ≡ read_call lib s t k
    unfolding read_call
    call_done q = sym (simp e (next_on (arcs_read lib b s) tt b (sym h.answer ∙ ap scan_meaning q)))

    pub call_refused : (f : Fault) → x ≡ Err f → stopped (number f.refusal) f.at ≡ read_call lib s t k
    unfolding read_call
    call_refused f q = sym (simp e (next_off (arcs_read lib b s) tt (λ _. got b) (number f.refusal) f.at (sym h.answer ∙ ap scan_meaning q)))
