-- A call's answer from its checks and from what follows them; and what becomes of the scratch.
use Rattle.std.specs.Prelude.{Err, Ok}
use mathlib.Core.Path.{◌≡◌, refl, sym, ap, ◌∙◌, subst}
use mathlib.Core.Bool.{false, ◌&&◌}
use mathlib.Core.List.{List}
use Prim.Native.Nat.{ℕ, ◌+◌, ◌-◌, ◌*◌, ◌≤◌}
use native.Mathlib.Omega.{arith}
use lib.Dec.{T, le→leb}
use lib.IntN.{ℤ}
use lib.ListN.{length, drop}
use lib.Seq.{drop-drop}
use Rattle.laws.proofs.Booleans.{and_i}
use Rattle.graph.specs.Graph.{Graph}
use Rattle.timing.specs.declared.Refusal.{Refusal}
use Rattle.timing.specs.Limits.{scratch_cells}
use Rattle.timing.specs.Refusal.{number, Verdict, refused, accepted, ◌then◌, left_by, Answers}
use Rattle.timing.specs.Table.{graph_of}
use Rattle.timing.specs.Checks.{BoardSizes, sizes_fit, table_fits, scratch_fits, checked}
use Rattle.paths.specs.declared.sorted.Sorted.{Sorted}
use Rattle.paths.specs.Tables.{timing_graph}
use Rattle.paths.specs.Checked.{Checking}
use Rattle.paths.specs.Queries.{lent_fits, ScratchAfter}
use Rattle.paths.proofs.Sizes.{board_fits}
use Rattle.paths.proofs.Checking.{call_on, call_refused}

-- what follows the checks, over any sizes
abbrev pub Part : Type 0 → Type 0
Part A = ℕ → ℕ → ℕ → Graph → Verdict A

module _ {m n N s : ℕ} {t : List ℤ} where
  -- the checks passed: what holds of what follows them holds of the call
  pub call_is : {A : Type 0} (P : Verdict A → Type 0) (f : Part A) (x : Sorted) → Checking m n N s t (Ok x) → P (f x.table.board.inputs x.table.board.outputs x.table.board.vertices (timing_graph x.table)) → P (checked m n N s t then f m n N)
  call_is P f x c h =
      let e = call_on m n N s t x c (f m n N) in
      subst P (sym e.0) (subst (λ (y : List ℤ). P (f m n N (graph_of N y))) (c.lent x refl).0 (subst (λ (y : BoardSizes). P (f y.inputs y.outputs y.vertices (graph_of y.vertices x.table.cells.now))) (sym e.1) h))

  -- and so does a promise
  module _ {R A L : Type 0} {meaning : R → L → Verdict A} {part : A → L} where
    pub answers_on : (x : Sorted) → Checking m n N s t (Ok x) → (f : Part A) (before after : L) (r : R)
        → Answers meaning part (f x.table.board.inputs x.table.board.outputs x.table.board.vertices (timing_graph x.table)) before after r → Answers meaning part (checked m n N s t then f m n N) before after r
    answers_on x c f before after r h = call_is (λ (v : Verdict A). Answers meaning part v before after r) f x c h

    -- the checks refused, and answer r says their number
    pub answers_refused : (x : Refusal) → Checking m n N s t (Err x) → (f : Graph → Verdict A) (before : L) (r : R) → meaning r before ≡ refused (number x) → Answers meaning part (checked m n N s t then f) before before r
    answers_refused x c f before r said =
        let e = call_refused m n N s t x c f in
        record { answer = said ∙ sym e; left = sym (ap (λ (v : Verdict A). left_by part v before) e) }

  -- the checks passed, so that only the cells past those that the call may use are promised
  pub scratch_on : (x : Sorted) → Checking m n N s t (Ok x) → (before after : List ℤ) → s ≡ length before → drop (scratch_cells x.table.board.vertices) after ≡ drop (scratch_cells x.table.board.vertices) before
      → ScratchAfter m n N t before after
  scratch_on x c before after len h =
      let e = call_on m n N s t x c (λ _. accepted (tt {0})) in
      subst (λ (y : List ℤ). ScratchAfter m n N y before after) (c.lent x refl).0
      (subst (λ (y : BoardSizes). ScratchAfter y.inputs y.outputs y.vertices x.table.cells.now before after) (sym e.1) (record { past = h; untouched = λ z. absurd (clash z all_fit) }))
    where
      clash : lent_fits x.table.board.inputs x.table.board.outputs x.table.board.vertices x.table.cells.now (length before) ≡ false → T (lent_fits x.table.board.inputs x.table.board.outputs x.table.board.vertices x.table.cells.now (length before)) → ⊥
      clash z k = subst T z k

      all_fit : T (lent_fits x.table.board.inputs x.table.board.outputs x.table.board.vertices x.table.cells.now (length before))
      all_fit = and_i (sizes_fit x.table.board.inputs x.table.board.outputs x.table.board.vertices && table_fits x.table.board.vertices x.table.cells.now) (scratch_fits x.table.board.vertices (length before))
          (and_i (sizes_fit x.table.board.inputs x.table.board.outputs x.table.board.vertices) (table_fits x.table.board.vertices x.table.cells.now) (board_fits x.table.board) (le→leb (x.table.board.vertices * x.table.board.vertices) (length x.table.cells.now) x.table.room))
          (le→leb (scratch_cells x.table.board.vertices) (length before) (omega (arith, (c.lent x refl).1)))

-- cells that stay from n on stay from any later cell on
pub drop_further : (n k : ℕ) (before after : List ℤ) → n ≤ k → drop n after ≡ drop n before → drop k after ≡ drop k before
drop_further n k before after h e =
    let q : n + (k - n) ≡ k = omega arith in
    ap (λ (x : ℕ). drop x after) (sym q) ∙ sym (drop-drop (k - n) n after) ∙ ap (drop (k - n)) e ∙ drop-drop (k - n) n before ∙ ap (λ (x : ℕ). drop x before) q
