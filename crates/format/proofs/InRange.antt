-- No delay that a read gives a cell needs a range check: a vertex is left by at most N records, since they rise.
use mathlib.Core.Path.{◌≡◌, refl, sym, ap, ◌∙◌, subst}
use mathlib.Core.Bool.{cond, ◌&&◌}
use mathlib.Core.List.{List}
use Prim.Native.Nat.{ℕ, suc, ◌+◌, ◌-◌, ◌*◌, ◌/◌, ◌≤◌, ◌<◌}
use native.Mathlib.Nat.{mul-le-mul}
use native.Mathlib.Omega.{arith}
use lib.Dec.{T, leb, ltb, eqb, leb→le, ltb→lt, eqb→eq, le→leb}
use lib.IntN.{ℤ, pos, negsuc}
use lib.ListN.{length, get_or}
use lib.Signed.{le_z, ◌≤ℤ◌}
use Rattle.laws.specs.Lists.{tabulate}
use Rattle.laws.proofs.Booleans.{and_i, and_e, cond_elim, eq→eqb}
use Rattle.laws.proofs.Bounded.{every_at, every_all}
use Rattle.laws.proofs.Linear.{zarith}
use Rattle.laws.proofs.Lists.{length-tabulate, get_d_tabulate}
use Rattle.graph.specs.Delay.{Delay, absent, at, present}
use Rattle.graph.specs.Graph.{Graph}
use Rattle.graph.proofs.Longest.{Within}
use Rattle.timing.specs.declared.Refusal.TheVariants.{WrongField, WrongLibrary}
use Rattle.timing.specs.Limits.{max_vertices, delay_limit, absent_cell, fits}
use Rattle.timing.specs.Refusal.{Verdict, refused, accepted}
use Rattle.timing.specs.Table.{read_cell, write_cell, with_graph}
use Rattle.timing.specs.Checks.{sizes_fit, table_fits, cells_fit, memory_checked, passes, BoardSizes}
use Rattle.timing.proofs.Checks.{few_of, sound_of, Passed, passed-passes, MemoryFits, memory_accepted, ArcsFit, arcs_accepted}
use Rattle.timing.proofs.Limits.{span_fits, not_mark}
use Rattle.timing.proofs.Table.{read_absent, read_at, graph_of_with_graph, length-with_graph}
use Rattle.timing.proofs.Verdict.{require_accepted, then_accepted, same_accepted}
use Rattle.format.specs.declared.Record.{Record}
use Rattle.format.specs.declared.Record.TheVariants as R
use Rattle.format.specs.declared.Entry.{Entry}
use Rattle.format.specs.declared.Entry.TheVariants as E
use Rattle.format.specs.Library.{library_cells, ticks_limit, ticks_fit, absent_or_fits, library_fits, InForce, found_in, ticks_in, value_of}
use Rattle.format.specs.Records.{under_load, cell_delay, record_at, LegalRecord}
use Rattle.format.specs.Reading.{got, placed, board_shape, known_at, board_records, arcs_worked, counted, no_loads, file_loads, with_arc, with_record, no_arcs, file_graph, header, opened, arcs_read, read_call, table_read}
use Rattle.format.specs.LibraryFile.{entry_at, entry_shape, library_records, with_entry, no_ticks, file_ticks, file_library, library_call}
use Rattle.format.specs.InRange.{most_delay, NoRangeCheck, ReadPasses, LibraryPasses}
use Rattle.format.proofs.AcceptedRecords.{legal, stands, legal_entry}
use Rattle.format.proofs.Carrying.{Keeps, carried}
use Rattle.format.proofs.Readings.{ask_got, next_got, placed_got, same_got}

-- ---- a cell's delay

abbrev UpTo : ℕ → ℤ → Type 0
UpTo most d = T (le_z (pos 0) d && le_z d (pos most))

pub below-fits : (most : ℕ) (d : ℤ) → most ≤ delay_limit → T (le_z (pos 0) d && le_z d (pos most)) → T (fits delay_limit (at d))
below-fits most d h t =
    let b = and_e (le_z (pos 0) d) (le_z d (pos most)) t in
    let lo : pos 0 ≤ℤ d = record { le = b.0 } in
    let hi : d ≤ℤ pos most = record { le = b.1 } in
    span_fits delay_limit (at d) (omega zarith)

pub ticks_fit_lem : (l : List ℤ) → InForce l → (c : ℕ) (d : ℤ) → ticks_in l c ≡ accepted d → T (ticks_fit d)
unfolding library_fits ticks_in
ticks_fit_lem l lib c d e =
    let b = and_e (eqb (length l) library_cells) _ lib in
    let q = require_accepted (ltb c (length l)) WrongField _ d e in
    let low : c < library_cells = omega (arith, ltb→lt c (length l) q.0, eqb→eq (length l) library_cells b.0) in
    go (read_cell absent_cell (get_or l c (pos 0))) (every_at library_cells _ b.1 c low) q.1
  where
    go : (x : Delay) → T (absent_or_fits x) → found_in x ≡ accepted d → T (ticks_fit d)
    go absent t e = absurd (let z : ◌≡◌ {A = ℕ} 0 1 = cc in omega arith)
    go (at z) t e = subst (UpTo ticks_limit) (same_accepted e) t

loaded-fits : (d : ℤ) (f : ℕ) → T (ticks_fit d) → f ≤ max_vertices → UpTo most_delay (under_load d f)
loaded-fits (pos n) f t h =
    let b = and_e (leb 0 n) (leb n ticks_limit) t in
    let k : n * (5 + f) ≤ ticks_limit * (5 + max_vertices) = mul-le-mul {n₂ = ticks_limit} {m₂ = 5 + max_vertices} (leb→le n ticks_limit b.1) (omega arith) in
    let x = (n * (5 + f) + 4) / 5 in
    and_i (leb 0 x) (leb x most_delay) (le→leb 0 x (omega arith)) (le→leb x most_delay (omega arith))
loaded-fits (negsuc n) f t h = absurd t

cell_fits : (v : Verdict ℤ) → ((d : ℤ) → v ≡ accepted d → UpTo most_delay d) → T (fits delay_limit (value_of v))
cell_fits (refused r) h = tt
cell_fits (accepted d) h = below-fits most_delay d (omega arith) (h d refl)

-- ---- a graph whose arcs are in range

abbrev Good : ℕ → Graph → Type 0
Good N g = Within N g × ((u v : ℕ) → T (fits delay_limit (g u v)))

with_arc_lem : (N u v : ℕ) (d : Delay) (g : Graph) → u < N → v < N → T (fits delay_limit d) → Good N g → Good N (with_arc u v d g)
with_arc_lem N u v d g hu hv hd h = (
  record {
    in_range = λ x y. cond_elim (λ (e : Delay). T (present e) → (x < N) × (y < N)) (eqb x u && eqb y v) d (g x y)
        (λ t _. let b = and_e (eqb x u) (eqb y v) t in (omega (arith, eqb→eq x u b.0), omega (arith, eqb→eq y v b.1))) (λ _. h.0.in_range x y);
  },
  λ x y. cond_elim (λ (e : Delay). T (fits delay_limit e)) (eqb x u && eqb y v) d (g x y) (λ _. hd) (λ _. h.1 x y),
)

-- ---- the records of a board file

module _ (l : List ℤ) (N : ℕ) (s : List ℕ) (ok : board_records l N s ≡ got tt) where
  worked : {A : Type 0} (f : Record → A → A) (P : ℕ → A → Type 0) → ((p : ℕ) (r : Record) (x : A) → LegalRecord N s p r → Keeps P x (f r x) (board_shape N r))
      → (x : A) → P 0 x → (top : ℕ) × P top (arcs_worked f N s x)
  unfolding board_records
  worked f P keeps x h =
      carried (board_shape N) f (known_at l N s) (record_at N s) s P
      (stands l N s)
      (λ p r x e. keeps p r x (legal N s p r e)) (length s) 5 0 0 x ok h

  -- no more leave a vertex than it has places, nor than it has below the first that may follow
  abbrev Left : ℕ → (ℕ → ℕ) → Type 0
  Left low load = (w : ℕ) → (load w ≤ N) × (load w ≤ low - N * w)

  one_more : (u v : ℕ) (load : ℕ → ℕ) → v < N → (low : ℕ) → low ≤ N * u + v → Left low load → Left (suc (N * u + v)) (λ w. cond (eqb u w) (suc (load w)) (load w))
  one_more u v load hv low hl h w =
      cond_elim (λ (k : ℕ). (k ≤ N) × (k ≤ suc (N * u + v) - N * w)) (eqb u w) (suc (load w)) (load w)
      (λ t. let e : N * u ≡ N * w = ap (λ (x : ℕ). N * x) (eqb→eq u w t) in (omega (arith, e, (h w).1), omega (arith, e, (h w).1)))
      (λ _. ((h w).0, omega (arith, (h w).1)))

  leaving : (p : ℕ) (r : Record) (load : ℕ → ℕ) → LegalRecord N s p r → Keeps Left load (counted r load) (board_shape N r)
  leaving p (R.Arc u v d) load h = one_more u v load h.2
  leaving p (R.Cell u v c) load h = one_more u v load h.2
  leaving p (R.End n) load h = tt

  few : (w : ℕ) → file_loads N s w ≤ N
  unfolding file_loads
  few w = ((worked counted Left leaving no_loads (λ _. (omega arith, omega arith))).1 w).0

  module _ (lib : InForce l) (size : N ≤ max_vertices) where
    cells : (c w : ℕ) (d : ℤ) → cell_delay l c (file_loads N s w) ≡ accepted d → UpTo most_delay d
    unfolding cell_delay
    cells c w d e =
        let q = then_accepted (ticks_in l c) _ d e in
        subst (UpTo most_delay) (same_accepted q.2) (loaded-fits q.0 (file_loads N s w) (ticks_fit_lem l lib c q.0 q.1) (omega (arith, few w)))

    placing : (p : ℕ) (r : Record) (g : Graph) → LegalRecord N s p r → Keeps (λ _. Good N) g (with_record l (file_loads N s) r g) (board_shape N r)
    placing p (R.Arc u v d) g h = λ _ _. with_arc_lem N u v (at d) g h.1 h.2 h.3
    placing p (R.Cell u v c) g h = λ _ _. with_arc_lem N u v (value_of (cell_delay l c (file_loads N s v))) g h.1 h.2 (cell_fits (cell_delay l c (file_loads N s v)) (cells c v))
    placing p (R.End n) g h = tt

    arcs_good : Good N (file_graph l N s)
    unfolding file_graph
    arcs_good = (worked (with_record l (file_loads N s)) (λ _. Good N) placing no_arcs (record { in_range = λ u v t. absurd t }, λ u v. tt)).1

pub no_range_check : NoRangeCheck
no_range_check l N s lib size ok = record { few = few l N s ok; cells = cells l N s ok lib size; arcs = (arcs_good l N s ok lib size).1 }

-- ---- a read that is accepted

opened-fits : (l : List ℤ) (s : List ℕ) (t : List ℤ) (k : ℕ) (b : BoardSizes) → opened l s t k ≡ got b → InForce l × MemoryFits b.inputs b.outputs b.vertices k t
unfolding opened
opened-fits l s t k b e =
    let lib = ask_got (library_fits l) WrongLibrary 0 _ b e in
    let h = next_got (header s) _ b lib.1 in
    let m = next_got (placed 0 (memory_checked h.0.inputs h.0.outputs h.0.vertices k t)) _ b h.2 in
    let fit = memory_accepted h.0.inputs h.0.outputs h.0.vertices k t m.0 (placed_got 0 _ m.0 m.1) in
    (lib.0, subst (λ (x : BoardSizes). MemoryFits x.inputs x.outputs x.vertices k t) (same_got m.2) fit)

arcs_fit : (l : List ℤ) (b : BoardSizes) (s : List ℕ) (g : Graph) → arcs_read l b s ≡ got g
    → (board_records l b.vertices s ≡ got tt) × ArcsFit b.inputs b.vertices (file_graph l b.vertices s) g
unfolding arcs_read
arcs_fit l b s g e =
    let r = next_got (board_records l b.vertices s) _ g e in
    (r.1, arcs_accepted b.inputs b.vertices (file_graph l b.vertices s) g (placed_got 0 _ g r.2))

-- a table that is given a graph passes where the graph does
table-passes : (m n N : ℕ) (t : List ℤ) (g h : Graph) → T (sizes_fit m n N) → T (table_fits N t) → Good N g → ArcsFit m N g h → Passed m n N (with_graph N g t)
unfolding cells_fit
table-passes m n N t g h sizes room good fit = record {
  sizes = sizes;
  table = le→leb (N * N) (length (with_graph N g t)) (omega (arith, leb→le (N * N) (length t) room, length-with_graph N g t (leb→le (N * N) (length t) room)));
  sound = rw (graph_of_with_graph N g t good.0 (λ u v z e. not_mark z (subst (λ (d : Delay). T (fits delay_limit d)) e (good.1 u v))))
      (sound_of m n N g good.0 sizes (every_all N _ (λ u _. every_all N _ (λ v _. good.1 u v))) fit.inputs fit.cycle);
}

parts_pass : (l : List ℤ) (s : List ℕ) (t : List ℤ) (k : ℕ) (b : BoardSizes) (g : Graph) → opened l s t k ≡ got b → arcs_read l b s ≡ got g
    → T (passes b.inputs b.outputs b.vertices (table_read l s t k))
unfolding table_read
parts_pass l s t k b g e f =
    let memory = opened-fits l s t k b e in
    let arcs = arcs_fit l b s g f in
    let good = arcs_good l b.vertices s arcs.0 memory.0 (few_of b.inputs b.outputs b.vertices memory.1.sizes) in
    rw (e, f, sym arcs.1.same) (passed-passes (table-passes b.inputs b.outputs b.vertices t (file_graph l b.vertices s) g memory.1.sizes memory.1.table good arcs.1))

pub read_passes : ReadPasses
unfolding read_call
read_passes l s t k b e =
    let o = next_got (opened l s t k) _ b e in
    let a = next_got (arcs_read l o.0 s) _ b o.2 in
    subst (λ (x : BoardSizes). T (passes x.inputs x.outputs x.vertices (table_read l s t k))) (same_got a.2) (parts_pass l s t k o.0 a.0 o.1 a.1)

-- ---- a library that was read

module _ (s : List ℕ) (ok : library_records s ≡ got tt) where
  abbrev Fit : (ℕ → Delay) → Type 0
  Fit f = (c : ℕ) → T (absent_or_fits (f c))

  naming : (p : ℕ) (r : Entry) (f : ℕ → Delay) → entry_at s p ≡ accepted r → Keeps (λ _. Fit) f (with_entry r f) (entry_shape r)
  naming p (E.Ticks c d) f e = λ _ _ h x. cond_elim (λ (y : Delay). T (absent_or_fits y)) (eqb x c) (at d) (f x) (λ _. (legal_entry s p (E.Ticks c d) e).2) (λ _. h x)
  naming p (E.End n) f e = tt

  named : Fit (file_ticks s)
  unfolding library_records file_ticks
  named = (carried entry_shape with_entry (entry_at s) (entry_at s) s (λ _. Fit) (λ p r e. e) naming (length s) 0 0 0 no_ticks ok (λ c. tt)).1

  -- a cell that is written reads as its ticks
  held : (d : Delay) → T (absent_or_fits d) → read_cell absent_cell (write_cell absent_cell d) ≡ d
  held absent h = read_absent absent_cell absent_cell refl
  held (at z) h = read_at absent_cell z (not_mark z (below-fits ticks_limit z (omega arith) h))

  library_fits_lem : InForce (file_library s)
  unfolding library_fits file_library
  library_fits_lem =
      let cell : ℕ → ℤ = λ c. write_cell absent_cell (file_ticks s c) in
      and_i (eqb (length (tabulate library_cells cell)) library_cells) _
      (eq→eqb _ library_cells (length-tabulate cell library_cells))
      (every_all library_cells _ (λ c l. subst (λ (d : Delay). T (absent_or_fits d)) (sym (ap (read_cell absent_cell) (get_d_tabulate cell library_cells c (pos 0) l) ∙ held (file_ticks s c) (named c))) (named c)))

pub library_passes : LibraryPasses
unfolding library_call
library_passes s l e = rw e (library_fits_lem s (ask_got (eqb (length l) library_cells) WrongLibrary 0 _ tt e).1)
