use Rattle.std.proofs.Common.{◌≡◌, ℕ, ℤ, List, length, get_or, pos, w64, to_z, of_z, sym, refl, ◌∙◌, arith}
use Rattle.std.proofs.lemmas.Int.{to_z-of_z}
use Rattle.laws.proofs.Filling.{fill_none, fill_turn, fill_all}
use Rattle.laws.proofs.Lists.{is_tabulate}
use Rattle.paths.proofs.cells.copy.Goals as goal

abbrev cell : List ℤ → ℕ → ℤ
cell from j = get_or from j (pos 0)

pub loop-i-init : goal.loop-i-init
loop-i-init c = fill_none _ _

pub loop-i-preserved : goal.loop-i-preserved
loop-i-preserved c =
    let from = c.args.from.now in
    let i = c.loop-i.i in
    let z : to_z w64 (of_z w64 (get_or from i (pos 0))) ≡ get_or from i (pos 0) = grind (arith, to_z-of_z) in
    fill_turn (cell from) c.args.to.now c.loop-i.to i _ c.loop-i-test.true c.loop-i.invariant z

pub returns : goal.returns
returns c =
    let from = c.args.from.now in
    let to = c.args.to.now in
    c.loop-i.invariant ∙ fill_all (cell from) to c.loop-i.i (omega arith) ∙ sym (is_tabulate (pos 0) from (length to) (cell from) (sym c.requires) (λ j l. refl))
