use Rattle.std.proofs.Common.{◌≡◌, sym, ap, ◌∙◌, ℕ, ℤ, pos, get_or, length, rules, arith, w32, to_z, of_z, le-ltb, lt-ltb}
use Rattle.graph.specs.Delay.{present}
use Rattle.timing.specs.Limits.{absent_cell}
use Rattle.timing.specs.Refusal.{accepted}
use Rattle.timing.specs.Table.{read_cell}
use Rattle.format.specs.Library.{found_in, ticks_in}
use Rattle.paths.proofs.ReadCells.{absent_cell_lem, arc_cell}
use Rattle.files.proofs.library.ticks_in.Goals as goal

pub returns-then-at-library : goal.returns-then-at-library
unfolding ticks_in
returns-then-at-library c = let a = c.args in simp (le-ltb a.code (length a.library.now) (omega arith))

pub returns-then-is_arc : goal.returns-then-is_arc
unfolding ticks_in
returns-then-is_arc c =
    let a = c.args in
    let at_code : ℕ → ℤ = λ i. get_or a.library.now i (pos 0) in
    let held : to_z w32 (of_z w32 (at_code c.from-at.result)) ≡ at_code a.code = rw c.from-at.ensures (search rules) in
    let arc = ap (λ (x : ℤ). present (read_cell absent_cell x)) (sym held) ∙ sym c.is_arc.ensures ∙ c.if-is_arc.true in
    ap accepted held ∙ sym (simp (lt-ltb a.code (length a.library.now) (omega arith)) (ap found_in (arc_cell (at_code a.code) arc)))

pub returns : goal.returns
unfolding ticks_in
returns c =
    let a = c.args in
    let at_code : ℕ → ℤ = λ i. get_or a.library.now i (pos 0) in
    let held : to_z w32 (of_z w32 (at_code c.from-at.result)) ≡ at_code a.code = rw c.from-at.ensures (search rules) in
    let none = ap (λ (x : ℤ). present (read_cell absent_cell x)) (sym held) ∙ sym c.is_arc.ensures ∙ c.if-is_arc.false in
    sym (simp (lt-ltb a.code (length a.library.now) (omega arith)) (ap found_in (absent_cell_lem (at_code a.code) none)))
