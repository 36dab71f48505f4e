use Rattle.std.proofs.Common.{arith}
use Rattle.timing.specs.declared.Refusal.TheVariants.{TableShort, ScratchShort}
use Rattle.timing.proofs.Verdict.{error_is}
use Rattle.paths.proofs.Checking.{memory_refusal, sizes_refused, table_short, scratch_short, memory_fits}
use Rattle.paths.proofs.checks.memory_checked.Goals as goal

pub returns-in_err-board : goal.returns-in_err-board
returns-in_err-board c =
    rw (error_is c.from_residual.result _ c.from_residual.ensures.1) (sizes_refused _ _ _ _ _ _ c.in_err-board.ensures)

pub returns-then-cells : goal.returns-then-cells
returns-then-cells c =
    memory_refusal TableShort (table_short _ _ _ c.args.scratch c.args.cells.now c.in_ok-board.board c.in_ok-board.ensures (omega (arith, c.if-cells.true, c.cells.ensures)))

pub returns-then-scratch-scratch_cells : goal.returns-then-scratch-scratch_cells
returns-then-scratch-scratch_cells c =
    memory_refusal ScratchShort (scratch_short _ _ _ c.args.scratch c.args.cells.now c.in_ok-board.board c.in_ok-board.ensures (omega (arith, c.if-cells.false, c.cells.ensures)) (omega (arith, c.if-scratch-scratch_cells.true, c.scratch_cells.ensures)))

pub returns : goal.returns
returns c = memory_fits _ _ _ _ _ c.in_ok-board.ensures (omega (arith, c.if-scratch-scratch_cells.false, c.scratch_cells.ensures))
