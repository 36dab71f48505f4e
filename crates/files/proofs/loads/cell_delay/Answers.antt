use Rattle.std.proofs.Common.{◌≡◌, sym, ap, subst, ◌∙◌, ℤ, rules, w32, to_z, of_z}
use Rattle.laws.proofs.Signed.{back}
use Rattle.timing.specs.Limits.{absent_cell}
use Rattle.timing.specs.Refusal.{Verdict}
use Rattle.timing.specs.Table.{write_cell}
use Rattle.format.specs.Library.{value_of}
use Rattle.format.specs.Records.{under_load}
use Rattle.files.specs.Loads.{Loadable}
use Rattle.files.proofs.CellLoads.{ticks_loadable, delay_from}
use Rattle.files.proofs.loads.cell_delay.Goals as goal

pub under_load-requires : goal.under_load-requires
under_load-requires c =
    let held : to_z w32 (of_z w32 c.in-Ok.ticks) ≡ c.in-Ok.ticks = search rules in
    subst Loadable (sym held) (ticks_loadable _ c.args.library.now.in_force _ c.in-Ok.ticks (sym c.in-Ok.ensures))

pub returns-in-Ok : goal.returns-in-Ok
returns-in-Ok c =
    let a = c.args in
    let held : to_z w32 (of_z w32 c.in-Ok.ticks) ≡ c.in-Ok.ticks = search rules in
    back w32 _ c.under_load.type_inv ∙ c.under_load.ensures ∙ ap (λ (z : ℤ). under_load z a.load) held
    ∙ sym (ap (λ (v : Verdict ℤ). write_cell absent_cell (value_of v)) (delay_from a.library.now.cells.now a.code a.load (sym c.in-Ok.ensures)))

pub returns-in-Err : goal.returns-in-Err
returns-in-Err c =
    let a = c.args in
    sym (ap (λ (v : Verdict ℤ). write_cell absent_cell (value_of v)) (delay_from a.library.now.cells.now a.code a.load (sym c.in-Err.ensures)))
