-- Each answer of the checks is what its verdict says under the tests that led there.
use Rattle.std.specs.Prelude.{Err, Ok, Result}
use mathlib.Core.Path.{◌≡◌, refl, sym, ap, ◌∙◌, subst}
use mathlib.Core.Bool.{Bool, true, false}
use mathlib.Core.List.{List}
use Prim.Native.Nat.{ℕ, ◌*◌, ◌≤◌, ◌<◌}
use native.Mathlib.Omega.{arith}
use borrow.Author.Tests.{le-leb, lt-leb}
use lib.IntN.{ℤ}
use lib.ListN.{length}
use Rattle.laws.proofs.Booleans.{true_is}
use Rattle.graph.specs.Graph.{Graph}
use Rattle.timing.specs.Limits.{scratch_cells}
use Rattle.timing.specs.declared.Refusal.{Refusal}
use Rattle.timing.specs.declared.Refusal.TheVariants.{Sizes, OddCell}
use Rattle.timing.specs.Refusal.{number, Verdict, refused, accepted, require, ◌then◌, on_value}
use Rattle.timing.specs.Table.{graph_of}
use Rattle.timing.specs.Sound.{Sound}
use Rattle.timing.specs.Checks.{BoardSizes, sizes, sizes_fit, cells_fit, memory_checked, arcs_checked, checked}
use Rattle.timing.proofs.Table.{graph_of_within}
use Rattle.timing.proofs.Verdict.{require_accepted, then_accepted, same_accepted}
use Rattle.timing.proofs.Checks.{sound_of, arcs_accepted, checked_accepted}
use Rattle.paths.specs.declared.board.Board.{Board}
use Rattle.paths.specs.declared.table.Table.{Table}
use Rattle.paths.specs.declared.sorted.Sorted.{Sorted}
use Rattle.paths.specs.Board.{sizes_of, board_of}
use Rattle.paths.specs.Tables.{timing_graph, table_sizes}
use Rattle.paths.specs.Checked.{memory_sizes, MemoryChecking, ArcsChecking, sizes_checked, Checking}
use Rattle.paths.proofs.Sizes.{board_fits, board_passes}

never : {A : Type 0} (r : Refusal) (a : A) → ◌≡◌ {A = Result A Refusal} (Err r) (Ok a) → ⊥
never r a z = let q : ◌≡◌ {A = ℕ} 0 1 = cc in omega arith

same_ok : {A : Type 0} {a b : A} → ◌≡◌ {A = Result A Refusal} (Ok a) (Ok b) → a ≡ b
same_ok z = cc

-- a first refusal is the refusal of what follows it
refused_on : {A B : Type 0} (k : ℕ) (v : Verdict A) (f : A → Verdict B) → refused k ≡ v → (v then f) ≡ refused k
refused_on k (refused r) f e = (cc)
refused_on k (accepted a) f e = absurd (let w : ◌≡◌ {A = ℕ} 0 1 = cc in omega arith)

refused_by : {A B : Type 0} (k : ℕ) (b : Bool) (x : Refusal) (a : A) (v : Verdict B) → refused k ≡ require b x (accepted a) → require b x v ≡ refused k
refused_by k true x a v e = absurd (let w : ◌≡◌ {A = ℕ} 0 1 = cc in omega arith)
refused_by k false x a v e = cc

-- ---- 1, 2 and 3

pub memory_refusal : {m n N s : ℕ} {t : List ℤ} (r : Refusal) → memory_sizes m n N s t ≡ refused (number r) → MemoryChecking m n N s t (Err r)
memory_refusal r e = record { answer = sym e; lent = λ x z. absurd (never r x z) }

module _ (m n N s : ℕ) (t : List ℤ) where
  pub sizes_refused : (x : Refusal) → refused (number x) ≡ board_of m n N → MemoryChecking m n N s t (Err x)
  unfolding board_of
  sizes_refused x e = memory_refusal x (refused_on (number x) (memory_checked m n N s t) _ (sym (refused_by (number x) (sizes_fit m n N) Sizes (sizes m n N) _ e)))

  module _ (b : Board) (e : accepted (sizes_of b) ≡ board_of m n N) where
    board_sizes : sizes m n N ≡ sizes_of b
    unfolding board_of
    board_sizes = same_accepted (require_accepted (sizes_fit m n N) Sizes (accepted (sizes m n N)) (sizes_of b) (sym e)).1

    same : memory_sizes m n N s t ≡ memory_sizes b.inputs b.outputs b.vertices s t
    same = ap (λ (x : BoardSizes). memory_sizes x.inputs x.outputs x.vertices s t) board_sizes

    pub table_short : length t < b.vertices * b.vertices → memory_sizes m n N s t ≡ refused 2
    table_short h = same ∙ simp (board_passes b, lt-leb (b.vertices * b.vertices) (length t) h)

    module _ (two : b.vertices * b.vertices ≤ length t) where
      pub scratch_short : s < scratch_cells b.vertices → memory_sizes m n N s t ≡ refused 3
      scratch_short h = same ∙ simp (board_passes b, le-leb (b.vertices * b.vertices) (length t) two, lt-leb (scratch_cells b.vertices) s h)

      memory_passes : scratch_cells b.vertices ≤ s → memory_sizes m n N s t ≡ accepted (sizes_of b)
      memory_passes h = same ∙ simp (board_passes b, le-leb (b.vertices * b.vertices) (length t) two, le-leb (scratch_cells b.vertices) s h)

pub memory_fits : (m n N s : ℕ) (x : Table) → accepted (sizes_of x.board) ≡ board_of m n N → scratch_cells x.board.vertices ≤ s → MemoryChecking m n N s x.cells.now (Ok x)
memory_fits m n N s x e h = record {
  answer = sym (memory_passes m n N s x.cells.now x.board e x.room h);
  lent = λ y z. subst (λ (q : Table). (q.cells.now ≡ x.cells.now) × (scratch_cells q.board.vertices ≤ s)) (same_ok z) (refl, h);
}

-- ---- all six

refusal : {m n N s : ℕ} {t : List ℤ} (r : Refusal) → sizes_checked m n N s t ≡ refused (number r) → Checking m n N s t (Err r)
refusal r e = record { answer = sym e; lent = λ x z. absurd (never r x z) }

module _ (m n N s : ℕ) (t : List ℤ) where
  -- 1, 2 or 3 refused
  pub memory_refused : (x : Refusal) → MemoryChecking m n N s t (Err x) → Checking m n N s t (Err x)
  unfolding sizes_checked checked
  memory_refused x c = refusal x (go (memory_checked m n N s t) _ (sym c.answer))
    where
      go : (v : Verdict (Unit {0})) (f : Unit {0} → Verdict Graph) → (v then λ _. accepted (sizes m n N)) ≡ refused (number x) → (v then f then λ _. accepted (sizes m n N)) ≡ refused (number x)
      go (refused y) f z = (cc)
      go (accepted y) f z = absurd (let w : ◌≡◌ {A = ℕ} 0 1 = cc in omega arith)

  module _ (x : Table) (c : MemoryChecking m n N s t (Ok x)) where
    abbrev b : Board
    b = x.board

    abbrev g : Graph
    g = timing_graph x

    made : sizes m n N ≡ table_sizes x
    made = same_accepted (then_accepted (memory_checked m n N s t) _ (table_sizes x) (sym c.answer)).2

    lent : (x.cells.now ≡ t) × (scratch_cells b.vertices ≤ s)
    lent = c.lent x refl

    -- the checks that are left are the table's
    on_table : sizes_checked m n N s t ≡ sizes_checked b.inputs b.outputs b.vertices s x.cells.now
    on_table = ap (λ (y : BoardSizes). sizes_checked y.inputs y.outputs y.vertices s t) made ∙ ap (sizes_checked b.inputs b.outputs b.vertices s) (sym lent.0)

    pub odd_cell : cells_fit b.vertices g ≡ false → Checking m n N s t (Err OddCell)
    unfolding sizes_checked checked
    odd_cell e = refusal OddCell (on_table ∙ simp (board_passes b, le-leb (b.vertices * b.vertices) (length x.cells.now) x.room, le-leb (scratch_cells b.vertices) s lent.1, e))

    module _ (four : cells_fit b.vertices g ≡ true) where
      rest : sizes_checked m n N s t ≡ on_value (λ _. table_sizes x) (arcs_checked b.inputs b.vertices g)
      unfolding sizes_checked checked
      rest = on_table ∙ simp (board_passes b, le-leb (b.vertices * b.vertices) (length x.cells.now) x.room, le-leb (scratch_cells b.vertices) s lent.1, four)

      pub arcs_refused : (r : Refusal) → ArcsChecking x (Err r) → Checking m n N s t (Err r)
      arcs_refused r h = refusal r (rest ∙ go (arcs_checked b.inputs b.vertices g) (sym h.answer))
        where
          go : (v : Verdict Graph) → on_value (λ _. tt {0}) v ≡ refused (number r) → on_value (λ _. table_sizes x) v ≡ refused (number r)
          go (refused y) z = (cc)
          go (accepted y) z = absurd (let w : ◌≡◌ {A = ℕ} 0 1 = cc in omega arith)

      module _ (o : List ℕ) (h : ArcsChecking x (Ok o)) where
        passed : (f : Graph) × (arcs_checked b.inputs b.vertices g ≡ accepted f)
        passed = let p = then_accepted (arcs_checked b.inputs b.vertices g) _ (tt {0}) (sym h.answer) in (p.0, p.1)

        pub arcs_sound : Sound b.inputs b.outputs b.vertices g
        arcs_sound =
            let a = arcs_accepted b.inputs b.vertices g passed.0 passed.1 in
            sound_of b.inputs b.outputs b.vertices g (graph_of_within b.vertices x.cells.now) (board_fits b) (true_is four) a.inputs a.cycle

        pub all_passed : (y : Sorted) → y.table ≡ x → Checking m n N s t (Ok y)
        all_passed y e = record {
          answer = ap (λ (q : Table). accepted (table_sizes q)) e ∙ sym (rest ∙ ap (on_value (λ _. table_sizes x)) passed.1);
          lent = λ z q. subst (λ (w : Sorted). (w.table.cells.now ≡ t) × (scratch_cells w.table.board.vertices ≤ s)) (same_ok q) (subst (λ (w : Table). (w.cells.now ≡ t) × (scratch_cells w.board.vertices ≤ s)) (sym e) lent);
        }

-- ---- calls: what follows the checks

module _ (m n N s : ℕ) (t : List ℤ) where
  checks_of : (v : Verdict Graph) (b : BoardSizes) → (v then λ _. accepted (sizes m n N)) ≡ accepted b → (g : Graph) × (v ≡ accepted g) × (sizes m n N ≡ b)
  checks_of v b e = let p = then_accepted v _ b e in (p.0, p.1, same_accepted p.2)

  -- all six passed: the call goes on with the table's graph
  pub call_on : {A : Type 0} (x : Sorted) → Checking m n N s t (Ok x) → (f : Graph → Verdict A) → ((checked m n N s t then f) ≡ f (graph_of N t)) × (sizes m n N ≡ table_sizes x.table)
  unfolding sizes_checked
  call_on x c f =
      let p = checks_of (checked m n N s t) (table_sizes x.table) (sym c.answer) in
      (ap (λ v. v then f) p.1 ∙ ap f (checked_accepted m n N s t p.0 p.1).graph, p.2)

  -- one refused: the call is refused by its number
  pub call_refused : {A : Type 0} (x : Refusal) → Checking m n N s t (Err x) → (f : Graph → Verdict A) → (checked m n N s t then f) ≡ refused (number x)
  unfolding sizes_checked
  call_refused x c f = go (checked m n N s t) (sym c.answer)
    where
      go : (v : Verdict Graph) → (v then λ _. accepted (sizes m n N)) ≡ refused (number x) → (v then f) ≡ refused (number x)
      go (refused y) z = (cc)
      go (accepted g) z = absurd (let w : ◌≡◌ {A = ℕ} 0 1 = cc in omega arith)
