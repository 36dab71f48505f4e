use Rattle.std.proofs.Common.{refl, ap, ◌∙◌, Ok, arith}
use Rattle.timing.proofs.Verdict.{error_is}
use Rattle.format.specs.LibraryFile.{entry_at, entry_shape, library_records}
use Rattle.files.proofs.Scanning.{all_left, turn_says, still_left}
use Rattle.files.proofs.Entries.{entry_short}
use Rattle.files.proofs.read_library.scan_entries.Goals as goal

pub loop-after-init : goal.loop-after-init
unfolding library_records
loop-after-init c = let s = c.args.bytes.now in all_left entry_shape (entry_at s) s (entry_short s) 0 (omega arith)

pub returns-in_err-after : goal.returns-in_err-after
returns-in_err-after c =
    rw (error_is c.from_residual.result _ c.from_residual.ensures.1) (turn_says entry_shape _ _ (entry_short _) c.loop-after.invariant c.in_err-after.ensures refl)

pub loop-after-preserved : goal.loop-after-preserved
loop-after-preserved c =
    still_left entry_shape _ _ (entry_short _) c.loop-after.invariant c.turn.ensures _ (c.in_ok-after.was ∙ ap Ok c.in-Some.is)

pub returns : goal.returns
returns c =
    turn_says entry_shape _ _ (entry_short _) c.loop-after.invariant c.turn.ensures (c.in_ok-after.was ∙ ap Ok c.in_default.is)
