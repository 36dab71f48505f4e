-- What a table, a sorted one and a walk promise, as the laws say it.
use mathlib.Core.Path.{◌≡◌, subst}
use mathlib.Core.List.{List}
use lib.IntN.{ℤ}
use Rattle.timing.specs.Sound.{Sound}
use Rattle.paths.specs.declared.table.Table.{Table}
use Rattle.paths.specs.declared.sorted.Sorted.{Sorted}
use Rattle.paths.specs.declared.chain.Walk.{Walk}
use Rattle.paths.specs.Tables.{timing_graph}
use Rattle.paths.specs.Checked.{Checked, Passable}

pub checked_table : (x : Table) → Sound x.board.inputs x.board.outputs x.board.vertices (timing_graph x) → Checked x.board x.cells.now
checked_table x s = record { lent = x.room; sound = s }

pub passable : (x : Sorted) → Passable x.table.board x.table.cells.now x.order
passable x = record { checked = checked_table x.table x.sound; order = x.rises }

pub walk_passable : (x : Walk) → Passable x.table.board x.table.cells.now x.order.now
walk_passable x = record { checked = checked_table x.table x.sound; order = x.rises }

-- over a list that is the same
pub passable_on : (x : Sorted) {t : List ℤ} → x.table.cells.now ≡ t → Passable x.table.board t x.order
passable_on x e = subst (λ (t : List ℤ). Passable x.table.board t x.order) e (passable x)
