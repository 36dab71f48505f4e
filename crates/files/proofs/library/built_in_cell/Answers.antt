use Rattle.std.proofs.Common.{ap, ℤ, arith, ◌<◌}
use Rattle.timing.specs.Limits.{absent_cell}
use Rattle.timing.specs.Refusal.{Verdict}
use Rattle.timing.specs.Table.{write_cell}
use Rattle.format.specs.Library.{value_of}
use Rattle.records.proofs.CellCodes.{no_ticks_lem}
use Rattle.files.proofs.library.built_in_cell.Goals as goal

pub returns-in-Err : goal.returns-in-Err
returns-in-Err c =
    let above : ¬ (c.args.code < 256) = c.in-Err.ensures in
    ap (λ (v : Verdict ℤ). write_cell absent_cell (value_of v)) (no_ticks_lem c.args.code (omega arith))
