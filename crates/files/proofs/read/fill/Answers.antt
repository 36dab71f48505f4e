use Rattle.files.proofs.Loading.{filled, emptied}
use Rattle.files.proofs.read.fill.Goals as goal

pub returns-in-Err : goal.returns-in-Err
returns-in-Err c =
    rw c.from.ensures (emptied _ _ _ c.args.loads.now _ c.requires.loads_value c.requires.table_value c.place.ensures.graph_after c.place.ensures.table_after _ c.arcs_checked.ensures _ c.in-Err.is _ c.blank.ensures)

pub returns : goal.returns
returns c =
    filled _ _ _ c.args.loads.now _ c.requires.loads_value c.requires.table_value c.place.ensures.graph_after c.place.ensures.table_after _ c.arcs_checked.ensures _ c.in_default.is
