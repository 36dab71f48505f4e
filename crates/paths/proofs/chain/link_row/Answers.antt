use Rattle.std.proofs.Common.{◌≡◌, ◌-◌, ℕ, List, ℤ, Bool, false, not, eqb, get_or, pos, refl, sym, ap, ap₂, ◌∙◌, arith, w32, to_z, of_z}
use Rattle.std.proofs.lemmas.Int.{to_z-of_z}
use Rattle.laws.proofs.Booleans.{neqb→ne, true_is}
use Rattle.graph.specs.Delay.{Delay, present, ◌⊕◌}
use Rattle.graph.proofs.Presence.{absent_unless}
use Rattle.timing.specs.Limits.{absent_cell}
use Rattle.timing.specs.Table.{read_cell}
use Rattle.paths.specs.Cells.{cell_at}
use Rattle.paths.specs.Chain.{below}
use Rattle.paths.proofs.Chaining.{link_kept, link_beaten, link_absent}
use Rattle.paths.proofs.chain.link_row.Goals as goal
use Rattle.paths.proofs.chain.link_row.Goals.{else-is_arc-via-then-is_arc+else-not-beaten, then-this-ne0, else-this-ne0, else-is_arc-via-else-is_arc}

-- a cell, and d, as the code has them
abbrev read : List ℤ → ℕ → ℤ
read row v = to_z w32 (of_z w32 (get_or row v (pos 0)))

abbrev delay : ℤ → Delay
delay d = read_cell absent_cell (to_z w32 (of_z w32 d))

-- what the calls say of a cell of the row and one of `next`
there : (row : List ℤ) (v : ℕ) {a b : Bool} → a ≡ present (read_cell absent_cell (read row v)) → read row v ≡ get_or row v (pos 0) → a ≡ b → present (cell_at row v) ≡ b
there row v e r a = ap (λ (z : ℤ). present (read_cell absent_cell z)) (sym r) ∙ sym e ∙ a

said : (row next : List ℤ) (d : Delay) (v : ℕ) {b : Bool} → b ≡ below (read_cell absent_cell (read row v)) (d ⊕ read_cell absent_cell (read next v))
    → read row v ≡ get_or row v (pos 0) → read next v ≡ get_or next v (pos 0) → b ≡ below (cell_at row v) (d ⊕ cell_at next v)
said row next d v e r x = e ∙ ap₂ (λ (y z : ℤ). below (read_cell absent_cell y) (d ⊕ read_cell absent_cell z)) r x

-- where there is no way by the next vertex, it beats none
no_way : (x d y : Delay) → present d ≡ false → below x (d ⊕ y) ≡ false
unfolding below
no_way x d y e = rw (absent_unless d (true_is (ap not e))) refl

pub loop-v-preserved-then-not-beaten : goal.loop-v-preserved-then-not-beaten
loop-v-preserved-then-not-beaten g c =
    let row = c.args.row.now in
    let next = c.args.next.now in
    let v = c.loop-v.v - 1 in
    let d = delay c.args.d in
    let held : delay c.args.d ≡ read_cell absent_cell c.args.d = grind (arith, to_z-of_z) in
    link_kept (cell_at row) (cell_at next) d c.loop-v.invariant c.loop-v-test.true (there row v c.is_arc.ensures (grind (arith, to_z-of_z)) c.if-is_arc.true)
    (elim c.if-this-ne0.branch [
      | then-this-ne0 w ↦ sym (said row next d v w.beaten.ensures (grind (arith, to_z-of_z)) (grind (arith, to_z-of_z))) ∙ sym w.value-is ∙ c.if-not-beaten.true
      | else-this-ne0 w ↦ no_way (cell_at row v) d (cell_at next v) (ap present held ∙ sym c.requires.via ∙ ap (λ (x : ℕ). not (eqb x 0)) w.if-this-ne0.false)
    ])

pub loop-v-preserved : goal.loop-v-preserved
loop-v-preserved g c =
    let row = c.args.row.now in
    let next = c.args.next.now in
    let v = c.loop-v.v - 1 in
    let d = delay c.args.d in
    elim c.else-is_arc.branch [
      | else-is_arc-via-then-is_arc+else-not-beaten w ↦
          elim w.if-this-ne0.branch [
            | then-this-ne0 k ↦ link_beaten (cell_at row) (cell_at next) d c.loop-v.invariant c.loop-v-test.true (sym (said row next d v k.beaten.ensures (grind (arith, to_z-of_z)) (grind (arith, to_z-of_z))) ∙ sym k.value-is ∙ w.if-not-beaten.false)
            | else-this-ne0 k ↦ absurd (neqb→ne g.row.VIA 0 (true_is (sym k.value-is ∙ w.if-not-beaten.false)) k.if-this-ne0.false)
          ]
      | else-is_arc-via-else-is_arc w ↦ link_absent (cell_at row) (cell_at next) d c.loop-v.invariant c.loop-v-test.true (there row v c.is_arc.ensures (grind (arith, to_z-of_z)) w.if-is_arc.false)
    ]
