use Rattle.std.proofs.Common.{sym, ◌∙◌, length, eq-eqb, ne_eqb}
use Rattle.format.specs.Library.{library_cells}
use Rattle.format.specs.LibraryFile.{library_call}
use Rattle.timing.proofs.Verdict.{error_is}
use Rattle.files.proofs.read_library.read_library.Goals as goal

pub returns-then-library-ne-CODES-clause-result_value : goal.returns-then-library-ne-CODES-clause-result_value
unfolding library_call
returns-then-library-ne-CODES-clause-result_value c = rw c.from.ensures (sym (simp (ne_eqb (length c.args.library.now) library_cells c.if-library-ne-CODES.true)))

pub returns-then-library-ne-CODES-clause-library_after : goal.returns-then-library-ne-CODES-clause-library_after
unfolding library_call
returns-then-library-ne-CODES-clause-library_after c = sym (simp (ne_eqb (length c.args.library.now) library_cells c.if-library-ne-CODES.true))

pub returns-in_err-scan_entries-clause-result_value : goal.returns-in_err-scan_entries-clause-result_value
unfolding library_call
returns-in_err-scan_entries-clause-result_value c =
    rw (error_is c.from_residual.result _ c.from_residual.ensures.1) (sym (simp (eq-eqb (length c.args.library.now) library_cells c.if-library-ne-CODES.false) (sym c.in_err-scan_entries.ensures)))

pub returns-in_err-scan_entries-clause-library_after : goal.returns-in_err-scan_entries-clause-library_after
unfolding library_call
returns-in_err-scan_entries-clause-library_after c =
    sym (simp (eq-eqb (length c.args.library.now) library_cells c.if-library-ne-CODES.false, sym c.in_err-scan_entries.ensures))

pub returns-clause-result_value : goal.returns-clause-result_value
unfolding library_call
returns-clause-result_value c =
    sym (simp (eq-eqb (length c.args.library.now) library_cells c.if-library-ne-CODES.false) (sym c.in_ok-scan_entries.ensures))

pub returns-clause-library_after : goal.returns-clause-library_after
unfolding library_call
returns-clause-library_after c =
    c.place_entries.ensures ∙ sym (simp (eq-eqb (length c.args.library.now) library_cells c.if-library-ne-CODES.false, sym c.in_ok-scan_entries.ensures))
