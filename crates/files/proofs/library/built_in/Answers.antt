use Rattle.std.proofs.Common.{◌∙◌, arith, w32}
use Rattle.laws.proofs.Filling.{fill_none, fill_turn}
use Rattle.laws.proofs.Signed.{back}
use Rattle.timing.specs.Limits.{absent_cell}
use Rattle.timing.specs.Table.{write_cell}
use Rattle.format.specs.Library.{ticks_of, value_of}
use Rattle.files.proofs.library.built_in.Goals as goal

pub loop-code-init : goal.loop-code-init
loop-code-init c = fill_none _ _

pub loop-code-preserved : goal.loop-code-preserved
loop-code-preserved c =
    fill_turn (λ c. write_cell absent_cell (value_of (ticks_of c))) c.args.library.now c.loop-code.library c.loop-code.code _ (omega (arith, c.loop-code-test.true, c.loop-code.auto.library)) c.loop-code.invariant (back w32 _ c.built_in_cell.type_inv ∙ c.built_in_cell.ensures)
