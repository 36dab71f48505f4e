use Rattle.std.proofs.Common.{◌≡◌, sym, ap, ◌∙◌, ℕ, ◌+◌, rules, arith, w32, to_z, of_z}
use Rattle.laws.specs.Lists.{tabulate}
use Rattle.timing.specs.Limits.{absent_cell}
use Rattle.timing.specs.Refusal.{accepted, verdict}
use Rattle.format.proofs.AcceptedRecords.{legal_entry}
use Rattle.files.proofs.Entries.{entry_short, placing_start, placing_length, placing_turn, placing_end, placing_stop}
use Rattle.files.proofs.read_library.place_entries.Goals as goal

pub loop-at-init : goal.loop-at-init
loop-at-init c = placing_start _ _ (c.clear.ensures ∙ ap (λ (n : ℕ). tabulate n (λ _. absent_cell)) c.requires)

pub offset_bounds-library-code : goal.offset_bounds-library-code
offset_bounds-library-code c =
    omega (arith, (legal_entry _ _ _ (sym c.entry_at.ensures ∙ ap verdict c.in-Ok-Ticks.is ∙ ap accepted c.in-Ok-Ticks.field-0-is)).1)

pub bounds-library-code : goal.bounds-library-code
bounds-library-code c =
    omega (arith, (legal_entry _ _ _ (sym c.entry_at.ensures ∙ ap verdict c.in-Ok-Ticks.is ∙ ap accepted c.in-Ok-Ticks.field-0-is)).1, placing_length _ _ _ c.loop-at.invariant)

pub loop-at-preserved : goal.loop-at-preserved
loop-at-preserved c =
    let d = c.in-Ok-Ticks.ticks in
    let held : to_z w32 (of_z w32 d) ≡ d = search rules in
    simp held (placing_turn _ _ _ c.loop-at.invariant c.in-Ok-Ticks.code d (sym c.entry_at.ensures ∙ ap verdict c.in-Ok-Ticks.is ∙ ap accepted c.in-Ok-Ticks.field-0-is))

pub returns-in-Ok-Ticks : goal.returns-in-Ok-Ticks
returns-in-Ok-Ticks c =
    let d = c.in-Ok-Ticks.ticks in
    let held : to_z w32 (of_z w32 d) ≡ d = search rules in
    simp held (placing_stop _ _ _ (placing_turn _ _ _ c.loop-at.invariant c.in-Ok-Ticks.code d (sym c.entry_at.ensures ∙ ap verdict c.in-Ok-Ticks.is ∙ ap accepted c.in-Ok-Ticks.field-0-is)) _ (entry_short _ (c.loop-at.at + 7) (omega arith)))

pub returns-in-Ok-End : goal.returns-in-Ok-End
returns-in-Ok-End c = placing_end _ _ _ c.loop-at.invariant _ (sym c.entry_at.ensures ∙ ap verdict c.in-Ok-End.is ∙ ap accepted c.in-Ok-End.field-0-is)

pub returns-in-Err : goal.returns-in-Err
returns-in-Err c = placing_stop _ _ _ c.loop-at.invariant _ (sym c.in-Err.ensures)

pub returns : goal.returns
returns c = placing_stop _ _ _ c.loop-at.invariant _ (entry_short _ c.loop-at.at (omega (arith, c.loop-at-test.false)))
