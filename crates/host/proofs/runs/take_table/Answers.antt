use Rattle.std.proofs.Common.{◌∙◌, arith, w32}
use Rattle.laws.proofs.Filling.{fill_none, fill_turn}
use Rattle.laws.proofs.Signed.{back}
use Rattle.host.specs.Runs.{run_cell}
use Rattle.host.proofs.runs.take_table.Goals as goal

pub loop-x-init : goal.loop-x-init
loop-x-init c = fill_none _ _

pub loop-x-preserved : goal.loop-x-preserved
loop-x-preserved c =
    fill_turn (run_cell 4 c.args.bytes.now) c.args.cells.now c.loop-x.cells c.loop-x.x _ (omega (arith, c.loop-x-test.true, c.loop-x.auto.cells)) c.loop-x.invariant (back w32 _ c.cell_at.type_inv ∙ c.cell_at.ensures)
