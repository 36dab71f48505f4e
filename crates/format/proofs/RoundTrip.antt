-- A written file reads back as the same table.
use mathlib.Core.Path.{◌≡◌, refl, sym, ap, ◌∙◌}
use mathlib.Core.Bool.{◌&&◌}
use mathlib.Core.List.{List, [], ◌∷◌, ◌++◌}
use Prim.Native.Nat.{ℕ, zero, suc, ◌+◌, ◌-◌, ◌*◌, ◌/◌, ◌%◌, ◌^◌, ◌≤◌, ◌<◌}
use native.Mathlib.Decide.{dec_lt}
use native.Mathlib.Nat.{mul-suc, mod-lt, div-add-mod, div-lt_iff_lt-mul}
use native.Mathlib.Omega.{arith}
use borrow.Author.Tests.{le-leb}
use lib.Dec.{T, leb, leb→le, le→leb}
use lib.IntN.{ℤ, pos}
use lib.ListN.{length, get_or, drop, take, length-append}
use lib.Seq.{get_or-drop, take-append_seam}
use Rattle.laws.proofs.Booleans.{T_true, and_e}
use Rattle.laws.proofs.Grid.{area}
use Rattle.graph.specs.Delay.{Delay, absent, at}
use Rattle.graph.specs.Graph.{Graph}
use Rattle.timing.specs.Limits.{max_vertices, absent_cell, scratch_cells}
use Rattle.timing.specs.declared.Refusal.TheVariants.{DestinationShort}
use Rattle.timing.specs.Refusal.{accepted}
use Rattle.timing.specs.Table.{write_cell, graph_of, with_graph}
use Rattle.timing.specs.Checks.{sizes_fit, table_fits, scratch_fits, cells_fit, no_arc_into_input, no_cycle, checked, passes, BoardSizes, sizes}
use Rattle.timing.proofs.Checks.{sound_within, sound_fits, Passed, passed, passed-passes, checked_accepted}
use Rattle.timing.proofs.Table.{written_read, graph_of_at, drop-with_graph, length-with_graph}
use Rattle.timing.proofs.Verdict.{require_accepted, then_accepted, same_accepted}
use Rattle.laws.proofs.Lists.{cell_rows}
use Rattle.laws.specs.Lists.{tabulate}
use Rattle.codec.specs.Bytes.{byte_of, pattern}
use Rattle.format.specs.Library.{library_fits, InForce}
use Rattle.format.specs.Records.{mark_at}
use Rattle.format.specs.Arcs.{Arc, arc_in, row_arcs, arcs_between, arcs_of}
use Rattle.format.specs.Reading.{got, header, opened, board_records, file_loads, no_arcs, file_graph, arcs_read, read_call, table_read}
use Rattle.format.specs.Writing.{board_record, arc_records, end_record, file_of, Written, write_call}
use Rattle.format.specs.RoundTrip.{RoundTrip}
use Rattle.format.proofs.Rising.{rising-arcs, place_arcs}
use Rattle.format.proofs.Parsing.{records_read, arcs_read_lem}

-- ---- a graph has at most N × N arcs, and a file more bytes than arcs

row_few : (g : Graph) (u v c : ℕ) → length (row_arcs g u v c) ≤ c
unfolding row_arcs
row_few g u v zero = omega arith
row_few g u v (suc c) = go (g u v) (row_few g u (suc v) c)
  where
    go : (d : Delay) → length (row_arcs g u (suc v) c) ≤ c → length (arc_in u v d ++ row_arcs g u (suc v) c) ≤ suc c
    go absent h = omega (arith, h)
    go (at d) h = omega (arith, h)

between_few : (N : ℕ) (g : Graph) (u c : ℕ) → length (arcs_between N g u c) ≤ N * c
unfolding arcs_between
between_few N g u zero = omega arith
between_few N g u (suc c) =
    omega (arith, length-append (row_arcs g u 0 N) (arcs_between N g (suc u) c), row_few g u 0 N, between_few N g (suc u) c, mul-suc N c)

records_long : (as' : List Arc) → length as' ≤ length (arc_records as')
unfolding arc_records
records_long [] = omega arith
records_long (a ∷ as') = omega (arith, records_long as', length-append (tabulate 4 (byte_of (pattern 4 a.delay))) (arc_records as'))

module _ (m n N : ℕ) (t : List ℤ) (ok : T (passes m n N t)) (l : List ℤ) (lib : InForce l) where
  abbrev g : Graph
  g = graph_of N t

  abbrev s : List ℕ
  s = file_of m n N (graph_of N t)

  abbrev size : BoardSizes
  size = sizes m n N

  good : Passed m n N t
  good = passed m n N t ok

  few : length (arcs_of N (graph_of N t)) < 256 ^ 2
  unfolding sizes_fit
  few = omega (arith, between_few N g 0 N, area N max_vertices (leb→le N max_vertices (and_e (leb 1 m && leb 1 n && leb (m + n) N) (leb N max_vertices) good.sizes).1))

  long : length (arcs_of N (graph_of N t)) < length (file_of m n N (graph_of N t))
  unfolding file_of
  long = omega (arith, records_long (arcs_of N g), length-append (arc_records (arcs_of N g)) (end_record (length (arcs_of N g))))

  records_good : board_records l N (file_of m n N (graph_of N t)) ≡ got tt
  unfolding board_records file_of
  records_good = records_read N s (length (arcs_of N g)) few l (arcs_of N g) (board_record m n N) 0 0 (length s) refl (rising-arcs N g (sound_fits good.sound)) (omega arith) long

  graph_good : file_graph l N (file_of m n N (graph_of N t)) ≡ graph_of N t
  unfolding file_graph file_of
  graph_good = arcs_read_lem N s (length (arcs_of N g)) few l (file_loads N s) (arcs_of N g) (board_record m n N) 0 (length s) no_arcs refl (rising-arcs N g (sound_fits good.sound)) long ∙ place_arcs N g (sound_within good.sound)

  header_good : header (file_of m n N (graph_of N t)) ≡ got size
  unfolding header file_of mark_at
  header_good = simp (le-leb 2 (length s) (omega arith), le-leb 5 (length s) (omega arith))

  arcs_good : arcs_read l size (file_of m n N (graph_of N t)) ≡ got (graph_of N t)
  unfolding arcs_read passes
  arcs_good =
      let q = and_e (sizes_fit m n N && table_fits N t && cells_fit N g && no_arc_into_input m N g) (no_cycle N g) ok in
      let r = and_e (sizes_fit m n N && table_fits N t && cells_fit N g) (no_arc_into_input m N g) q.0 in
      simp (records_good, graph_good, T_true {b = no_arc_into_input m N g} r.1, T_true {b = no_cycle N g} q.1)

  module _ (t' : List ℤ) (k : ℕ) (room : T (table_fits N t')) (scratch : T (scratch_fits N k)) where
    opened_good : opened l (file_of m n N (graph_of N t)) t' k ≡ got size
    unfolding opened
    opened_good = simp (T_true {b = library_fits l} lib, header_good, T_true {b = sizes_fit m n N} good.sizes, T_true {b = table_fits N t'} room, T_true {b = scratch_fits N k} scratch)

    read_good : read_call l (file_of m n N (graph_of N t)) t' k ≡ got size
    unfolding read_call
    read_good = simp (opened_good, arcs_good)

    table_good : table_read l (file_of m n N (graph_of N t)) t' k ≡ with_graph N (graph_of N t) t'
    unfolding table_read
    table_good = simp (opened_good, arcs_good)

-- ---- cell by cell

module _ (N : ℕ) (t t' : List ℤ) where
  cell_at : (u v : ℕ) → u < N → v < N → get_or (with_graph N (graph_of N t) t') (N * u + v) (pos 0) ≡ get_or t (N * u + v) (pos 0)
  unfolding with_graph
  cell_at u v hu hv =
      cell_rows N N (λ u v. write_cell absent_cell (graph_of N t u v)) (drop (N * N) t') u v (pos 0) hu hv
      ∙ ap (write_cell absent_cell) (graph_of_at N t u v hu hv) ∙ written_read absent_cell (get_or t (N * u + v) (pos 0))

  cell_same : (x : ℕ) → x < N * N → get_or (with_graph N (graph_of N t) t') x (pos 0) ≡ get_or t x (pos 0)
  cell_same x h = rw (div-add-mod x N) at (cell_at (x / N) (x % N) ((div-lt_iff_lt-mul some).1 h) (mod-lt x some))
    where
      some : 0 < N
      some = go (dec_lt 0 N)
        where
          go : Dec (0 < N) → 0 < N
          go (yes l) = l
          go (no n) = let e : N ≡ 0 = omega arith in absurd (omega (arith, h, ap (λ (k : ℕ). k * k) e))

  cell_kept : (x : ℕ) → N * N ≤ x → get_or (with_graph N (graph_of N t) t') x (pos 0) ≡ get_or t' x (pos 0)
  cell_kept x h =
      let e : N * N + (x - N * N) ≡ x = omega arith in
      rw e at (past (x - N * N))
    where
      past : (i : ℕ) → get_or (with_graph N (graph_of N t) t') (N * N + i) (pos 0) ≡ get_or t' (N * N + i) (pos 0)
      past i =
          sym (get_or-drop (N * N) (with_graph N (graph_of N t) t') i (pos 0))
          ∙ ap (λ (l : List ℤ). get_or l i (pos 0)) (drop-with_graph N (graph_of N t) t') ∙ get_or-drop (N * N) t' i (pos 0)

-- an accepted write: the table passed its checks, and the bytes that are counted are its file
record FileLeft (m n N : ℕ) (t : List ℤ) (w : Written) : Type 0 where
  ok : T (passes m n N t)
  file : take w.count w.bytes ≡ file_of m n N (graph_of N t)

left_file : (m n N s : ℕ) (t : List ℤ) (destination : List ℕ) (w : Written) → write_call m n N s t destination ≡ accepted w → FileLeft m n N t w
unfolding write_call
left_file m n N s t destination w e =
    let p = then_accepted (checked m n N s t) _ w e in
    let h = checked_accepted m n N s t p.0 p.1 in
    let file = file_of m n N p.0 in
    let left = same_accepted (require_accepted (leb (length file) (length destination)) DestinationShort _ w p.2).1 in
    record {
      ok = passed-passes h.good;
      file = ap (λ (x : Written). take x.count x.bytes) (sym left) ∙ take-append_seam file (drop (length file) destination) ∙ ap (file_of m n N) h.graph;
    }

pub round_trip : RoundTrip
round_trip m n N s t destination w e lib ok t' k room scratch = rw l.file record {
  answer = read_good m n N t l.ok lib ok t' k fits space;
  length_kept = ap length table ∙ length-with_graph N (graph_of N t) t' room;
  same = λ x h. ap (λ (y : List ℤ). get_or y x (pos 0)) table ∙ cell_same N t t' x h;
  kept = λ x h. ap (λ (y : List ℤ). get_or y x (pos 0)) table ∙ cell_kept N t t' x h;
}
  where
    l : FileLeft m n N t w
    l = left_file m n N s t destination w e

    fits : T (table_fits N t')
    fits = le→leb (N * N) (length t') room

    space : T (scratch_fits N k)
    space = le→leb (scratch_cells N) k scratch

    table : table_read lib (file_of m n N (graph_of N t)) t' k ≡ with_graph N (graph_of N t) t'
    table = table_good m n N t l.ok lib ok t' k fits space
