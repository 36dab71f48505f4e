use Rattle.std.proofs.Common.{◌∙◌, ◌*◌, arith, w32, w64, FitsSigned, List, ℕ}
use Rattle.laws.proofs.Signed.{widens, handed}
use Rattle.codec.proofs.Patterns.{in_width_fits}
use Rattle.codec.proofs.Places.{AreBytes, read_in_width, part_signed}
use Rattle.host.specs.Runs.{run_cell}
use Rattle.host.proofs.runs.cell_at.Goals as goal

small : (s : List ℕ) (x : ℕ) → AreBytes s → FitsSigned w32 (run_cell 4 s x)
small s x bytes = in_width_fits w32 4 (omega arith) (read_in_width s (4 * x) 4 bytes)

pub overflow_cast-result : goal.overflow_cast-result
overflow_cast-result c =
    let a = c.args in
    let f = small a.bytes.now a.x c.type_inv.bytes in
    rw (handed w64 (c.decode.ensures ∙ part_signed a.bytes.now (4 * a.x) 4 _ c.requires (omega arith)) (widens f)) f

pub returns : goal.returns
returns c =
    let a = c.args in
    let f = small a.bytes.now a.x c.type_inv.bytes in
    handed w32 (handed w64 (c.decode.ensures ∙ part_signed a.bytes.now (4 * a.x) 4 _ c.requires (omega arith)) (widens f)) f
