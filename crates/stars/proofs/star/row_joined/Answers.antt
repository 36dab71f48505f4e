use Rattle.std.proofs.Common.{◌≡◌, true, false, get_or, sym, ◌∙◌, rules, arith}
use Rattle.graph.specs.Delay.{present}
use Rattle.paths.specs.Cells.{cell_at}
use Rattle.stars.proofs.Members.{each_pass, each_stop, each_end}
use Rattle.stars.proofs.star.row_joined.Goals as goal

pub returns-then-not-is_arc : goal.returns-then-not-is_arc
returns-then-not-is_arc c =
    let said : present (cell_at c.args.row.now (get_or c.args.targets.now c.loop-t.t-index 0)) ≡ false = search rules in
    sym (each_stop c.args.targets.now c.loop-t.t-index c.loop-t-test.true _ said) ∙ c.loop-t.invariant

pub loop-t-preserved : goal.loop-t-preserved
loop-t-preserved c =
    let said : present (cell_at c.args.row.now (get_or c.args.targets.now c.loop-t.t-index 0)) ≡ true = search rules in
    sym (each_pass c.args.targets.now c.loop-t.t-index c.loop-t-test.true _ said) ∙ c.loop-t.invariant

pub returns : goal.returns
returns c = sym (each_end c.args.targets.now c.loop-t.t-index (omega arith) _) ∙ c.loop-t.invariant
