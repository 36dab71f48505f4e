use Rattle.std.proofs.Common.{◌||◌, Bool, sym, ap, ◌∙◌, eqb, eq-eqb}
use Rattle.laws.proofs.Somewhere.{or_true}
use Rattle.graph.specs.Count.{fan_in}
use Rattle.timing.specs.Table.{graph_of}
use Rattle.plans.proofs.shrink.is_relay.Goals as goal

pub returns-then-one_out : goal.returns-then-one_out
returns-then-one_out c =
    let n = c.args.table.now.board.vertices in
    let one : Bool = eqb (fan_in n (graph_of n c.args.table.now.cells.now) c.args.k) 1 in
    eq-eqb _ 1 c.if-one_out.true ∙ or_true one ∙ ap (λ (b : Bool). one || b) (sym (eq-eqb _ 1 (sym c.fan_out-one_out.ensures ∙ c.if-one_out.true)))
