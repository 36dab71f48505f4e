use Rattle.std.proofs.Common.{sym, ◌∙◌}
use Rattle.laws.proofs.Booleans.{not_is}
use Rattle.paths.proofs.Columns.{not_one, one_says}
use Rattle.paths.proofs.table.Table.one_into.Goals as goal

pub returns-in-Some : goal.returns-in-Some
returns-in-Some c = not_is c.is_none.ensures ∙ sym (one_says _ _ _ c.in-Some.u c.in-Some.ensures c.next_into-in-Some.result c.next_into-in-Some.ensures)

pub returns-in-None : goal.returns-in-None
returns-in-None c = sym (not_one _ _ _ c.in-None.ensures)
