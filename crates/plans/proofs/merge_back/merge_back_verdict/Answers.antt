use Rattle.std.proofs.Common.{◌≡◌, ◌&&◌, ◌+◌, ◌*◌, ◌<◌, Bool, true, false, not, Option, is_some, ℕ, ℤ, List, pos, get_or, eqb, sym, ap, ap₂, ◌∙◌, w32, arith}
use Rattle.std.proofs.lemmas.Int.{to_z-of_z}
use Rattle.laws.proofs.Booleans.{true_is, is_false, and_e}
use Rattle.graph.specs.Count.{fan_in}
use Rattle.timing.specs.declared.Refusal.TheVariants.{DelayOutOfRange}
use Rattle.timing.specs.Refusal.{accepted, require}
use Rattle.timing.specs.Limits.{absent_cell}
use Rattle.timing.specs.Table.{read_cell, graph_of}
use Rattle.timing.proofs.Table.{graph_of_at}
use Rattle.paths.specs.Board.{Lent}
use Rattle.paths.specs.declared.board.Board.{Board}
use Rattle.paths.specs.Cells.{NextInto, FirstInto}
use Rattle.paths.proofs.Columns.{next_first, not_one, one_says}
use Rattle.reduction.specs.Outcome.{is_output, is_inner}
use Rattle.reduction.specs.MergeBack.{driver, driver_delay, merge_fits, merge_back_verdict}
use Rattle.plans.specs.MergedRow.{Drives}
use Rattle.plans.specs.OnBoards.{InRange, merge_back_on}
use Rattle.plans.proofs.Drivers.{output_below, cell_ticks_lem, driver_drives}
use Rattle.plans.proofs.merge_back.merge_back_verdict.Goals as goal
use Rattle.plans.proofs.merge_back.merge_back_verdict.Goals.{then-not-is_inner-via-then-not-is_inner, then-not-is_inner-via-else-not-is_inner+then-is_some}

and_none : (a : Bool) → (a && false) ≡ false
and_none a = is_false (a && false) (λ t. (and_e a false t).1)

same_drives : {N : ℕ} {t : List ℤ} {o v w : ℕ} {d z : ℤ} → v ≡ w → d ≡ z → Drives N t w o z → Drives N t v o d
same_drives p q h = rw (p, q) h

-- o is an output, and v the first vertex with an arc to it
module _ (b : Board) (t : List ℤ) (o v : ℕ) (lent : Lent b t) (range : InRange b t) (output : is_output b.inputs b.outputs o ≡ true) (s : (v < b.vertices) × NextInto b.vertices (graph_of b.vertices t) o 0 v) where
  abbrev n : ℕ
  n = b.vertices

  abbrev z : ℤ
  z = driver_delay b.vertices (graph_of b.vertices t) o

  inside : o < n
  inside = output_below b.inputs b.outputs n o b.sized.roles (true_is output)

  v_is : v ≡ driver b.vertices (graph_of b.vertices t) o
  unfolding driver
  v_is = next_first n (graph_of n t) o v s.0 s.1

  drives : Drives b.vertices t (driver b.vertices (graph_of b.vertices t) o) o (driver_delay b.vertices (graph_of b.vertices t) o)
  drives = driver_drives n t o range inside (omega (arith, v_is, s.0))

  d_is : (d : ℤ) → d ≡ get_or t (b.vertices * v + o) (pos 0) → d ≡ driver_delay b.vertices (graph_of b.vertices t) o
  d_is d e = cell_ticks_lem d z (ap (read_cell absent_cell) e ∙ sym (graph_of_at n t v o s.0 inside) ∙ ap (λ (x : ℕ). graph_of n t x o) v_is ∙ drives.arc)

  is_inner_is : (r : Bool) → r ≡ is_inner b.inputs b.outputs b.vertices v → is_inner b.inputs b.outputs b.vertices (driver b.vertices (graph_of b.vertices t) o) ≡ r
  is_inner_is r e = ap (is_inner b.inputs b.outputs b.vertices) (sym v_is) ∙ sym e

  -- whether there is another
  single : (r : Option ℕ) → FirstInto b.vertices (graph_of b.vertices t) o (v + 1) r → (x : Bool) → is_some r ≡ x → eqb (fan_in b.vertices (graph_of b.vertices t) o) 1 ≡ not x
  single r f x e = one_says n (graph_of n t) o v s r f ∙ ap not e

  -- what is asked of the only driver is what the verdict asks
  verdict_is : is_inner b.inputs b.outputs b.vertices v ≡ true → eqb (fan_in b.vertices (graph_of b.vertices t) o) 1 ≡ true → (d : ℤ) → d ≡ get_or t (b.vertices * v + o) (pos 0) → (fit : Bool) → fit ≡ merge_fits b.vertices (graph_of b.vertices t) v o d
      → require fit DelayOutOfRange (accepted (v, d)) ≡ merge_back_on b t o
  unfolding merge_back_verdict
  verdict_is inner one d cell fit e =
      simp (output, one, is_inner_is true (sym inner))
      (ap (λ (f : Bool). require f DelayOutOfRange (accepted (v, d))) e ∙ ap₂ (λ (x : ℕ) (y : ℤ). require (merge_fits b.vertices (graph_of b.vertices t) x o y) DelayOutOfRange (accepted (x, y))) v_is (d_is d cell))

pub returns-then-not-is_output : goal.returns-then-not-is_output
unfolding merge_back_verdict
returns-then-not-is_output c = simp (sym c.is_output.ensures ∙ c.if-not-is_output.true)

pub returns-in_default : goal.returns-in_default
unfolding merge_back_verdict
returns-in_default c = simp (sym c.is_output.ensures ∙ c.if-not-is_output.false, not_one _ _ _ c.in_default.ensures)

pub returns-then-not-is_inner : goal.returns-then-not-is_inner
unfolding merge_back_verdict
returns-then-not-is_inner c =
    let b = c.args.table.now.board in
    let t = c.args.table.now.cells.now in
    let o = c.args.o in
    let v = c.in-Some.v in
    let output : is_output b.inputs b.outputs o ≡ true = sym c.is_output.ensures ∙ c.if-not-is_output.false in
    elim c.then-not-is_inner.branch [
      | then-not-is_inner-via-then-not-is_inner w ↦ simp (output, is_inner_is b t o v c.args.table.now.room c.requires output c.in-Some.ensures _ c.is_inner.ensures ∙ w.if-not-is_inner.true, and_none (eqb (fan_in b.vertices (graph_of b.vertices t) o) 1))
      | then-not-is_inner-via-else-not-is_inner+then-is_some w ↦ simp (output, single b t o v c.args.table.now.room c.requires output c.in-Some.ensures _ w.next_into-else-not-is_inner.ensures _ (sym w.is_some.ensures ∙ w.if-is_some.true))
    ]

pub merge_fits-requires-clause-drives : goal.merge_fits-requires-clause-drives
merge_fits-requires-clause-drives c =
    let b = c.args.table.now.board in
    let t = c.args.table.now.cells.now in
    let o = c.args.o in
    let v = c.in-Some.v in
    let output : is_output b.inputs b.outputs o ≡ true = sym c.is_output.ensures ∙ c.if-not-is_output.false in
    let d = to_z-of_z w32 _ (record { sfits = c.cell-d.type_inv }) ∙ c.cell-d.ensures in
    same_drives (v_is b t o v c.args.table.now.room c.requires output c.in-Some.ensures) (d_is b t o v c.args.table.now.room c.requires output c.in-Some.ensures _ d) (drives b t o v c.args.table.now.room c.requires output c.in-Some.ensures)

pub returns-then-not-merge_fits : goal.returns-then-not-merge_fits
returns-then-not-merge_fits c =
    let b = c.args.table.now.board in
    let t = c.args.table.now.cells.now in
    let o = c.args.o in
    let output : is_output b.inputs b.outputs o ≡ true = sym c.is_output.ensures ∙ c.if-not-is_output.false in
    let cell = to_z-of_z w32 _ (record { sfits = c.cell-d.type_inv }) ∙ c.cell-d.ensures in
    let one = single b t o c.in-Some.v c.args.table.now.room c.requires output c.in-Some.ensures _ c.next_into-else-not-is_inner.ensures _ (sym c.is_some.ensures ∙ c.if-is_some.false) in
    verdict_is b t o c.in-Some.v c.args.table.now.room c.requires output c.in-Some.ensures (sym c.is_inner.ensures ∙ c.if-not-is_inner.false) one _ cell false (sym c.if-not-merge_fits.true ∙ c.merge_fits.ensures)

pub returns : goal.returns
returns c =
    let b = c.args.table.now.board in
    let t = c.args.table.now.cells.now in
    let o = c.args.o in
    let output : is_output b.inputs b.outputs o ≡ true = sym c.is_output.ensures ∙ c.if-not-is_output.false in
    let cell = to_z-of_z w32 _ (record { sfits = c.cell-d.type_inv }) ∙ c.cell-d.ensures in
    let one = single b t o c.in-Some.v c.args.table.now.room c.requires output c.in-Some.ensures _ c.next_into-else-not-is_inner.ensures _ (sym c.is_some.ensures ∙ c.if-is_some.false) in
    verdict_is b t o c.in-Some.v c.args.table.now.room c.requires output c.in-Some.ensures (sym c.is_inner.ensures ∙ c.if-not-is_inner.false) one _ cell true (sym c.if-not-merge_fits.false ∙ c.merge_fits.ensures)
