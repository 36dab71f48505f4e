use Rattle.std.proofs.Common.{◌≡◌, ℕ, ℤ, List, get_or, pos, w64, to_z, of_z, ap₂, ◌∙◌, arith}
use Rattle.std.proofs.lemmas.Int.{to_z-of_z}
use Rattle.laws.proofs.Filling.{fill_none, fill_turn, fill_all}
use Rattle.graph.specs.Delay.{◌⊖◌}
use Rattle.timing.specs.Limits.{absent_wide}
use Rattle.timing.specs.Table.{read_cell, write_cell}
use Rattle.timing.specs.Delays.{arrival_in}
use Rattle.paths.proofs.margins.fill_margins.Goals as goal

-- what is stored at v
abbrev margin : List ℤ → List ℤ → ℕ → ℤ
margin r a v = write_cell absent_wide (arrival_in r v ⊖ arrival_in a v)

pub loop-v-init : goal.loop-v-init
loop-v-init c = fill_none _ _

pub loop-v-preserved : goal.loop-v-preserved
loop-v-preserved c =
    let r = c.args.required.now in
    let a = c.args.arrival.now in
    let v = c.loop-v.v in
    let er : to_z w64 (of_z w64 (get_or r v (pos 0))) ≡ get_or r v (pos 0) = grind (arith, to_z-of_z) in
    let ea : to_z w64 (of_z w64 (get_or a v (pos 0))) ≡ get_or a v (pos 0) = grind (arith, to_z-of_z) in
    let z : to_z w64 (of_z w64 c.margin_of.result) ≡ c.margin_of.result = grind (arith, to_z-of_z) in
    fill_turn (margin r a) c.args.margin.now c.loop-v.margin v _ c.loop-v-test.true c.loop-v.invariant
    (z ∙ c.margin_of.ensures ∙ ap₂ (λ (x y : ℤ). write_cell absent_wide (read_cell absent_wide x ⊖ read_cell absent_wide y)) er ea)

pub returns : goal.returns
returns c = c.loop-v.invariant ∙ fill_all (margin c.args.required.now c.args.arrival.now) c.args.margin.now c.loop-v.v (omega arith)
