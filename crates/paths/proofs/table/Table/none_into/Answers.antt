use Rattle.std.proofs.Common.{sym, ◌∙◌}
use Rattle.laws.proofs.Booleans.{not_is}
use Rattle.paths.proofs.Columns.{none_says}
use Rattle.paths.proofs.table.Table.none_into.Goals as goal

pub returns : goal.returns
returns c = not_is c.is_none.ensures ∙ sym (none_says _ _ _ c.next_into.result c.next_into.ensures)
