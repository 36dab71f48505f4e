use Rattle.std.proofs.Common.{◌≡◌, not, ◌&&◌, ◌||◌, get_or, false, sym, ap₂, ◌∙◌, rules}
use Rattle.laws.proofs.Somewhere.{some_zero, some_more}
use Rattle.graph.specs.Delay.{present}
use Rattle.paths.specs.Cells.{cell_at}
use Rattle.pruning.proofs.prune.row_unmarked.Goals as goal

pub loop-v-init : goal.loop-v-init
loop-v-init c = sym (some_zero _)

pub loop-v-preserved : goal.loop-v-preserved
loop-v-preserved c =
    let v = c.loop-v.v in
    let said : (present (cell_at c.args.row.now v) && not (get_or c.args.marks.now v false)) ≡ (c.is_arc.result && not (get_or c.args.marks.now v false)) = search rules in
    ap₂ ◌||◌ c.loop-v.invariant (sym said) ∙ sym (some_more _ v)
