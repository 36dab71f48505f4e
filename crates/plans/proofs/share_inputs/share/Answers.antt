use Rattle.std.proofs.Common.{sym, ap, ◌∙◌, List, ℤ, arith, w32}
use Rattle.std.proofs.lemmas.Int.{to_z-of_z}
use mathlib.Core.Path.{fun_ext}
use Rattle.graph.specs.Graph.{Graph}
use Rattle.timing.specs.Table.{graph_of, with_graph}
use Rattle.reduction.specs.ShareInputs.{inputs_shared}
use Rattle.plans.specs.SharedRow.{without_arcs}
use Rattle.reduction.proofs.Accepted.{share_inputs_accepted}
use Rattle.plans.proofs.share_inputs.share.Goals as goal

pub undriven-undriven-requires-clause-b_lt_vertices : goal.undriven-undriven-requires-clause-b_lt_vertices
undriven-undriven-requires-clause-b_lt_vertices c =
    let d = c.args.board in
    omega (arith, (share_inputs_accepted d.inputs d.outputs d.vertices c.args.a c.args.b c.args.k (graph_of d.vertices c.args.table.now) c.args.e c.requires.accepted).input_b, d.sized.roles)

pub undriven-undriven-requires-clause-k_lt_vertices : goal.undriven-undriven-requires-clause-k_lt_vertices
undriven-undriven-requires-clause-k_lt_vertices c =
    let d = c.args.board in
    (share_inputs_accepted d.inputs d.outputs d.vertices c.args.a c.args.b c.args.k (graph_of d.vertices c.args.table.now) c.args.e c.requires.accepted).inner.1

pub rewrite-requires-clause-rewritable : goal.rewrite-requires-clause-rewritable
rewrite-requires-clause-rewritable c =
    let d = c.args.board in
    let h = share_inputs_accepted d.inputs d.outputs d.vertices c.args.a c.args.b c.args.k (graph_of d.vertices c.args.table.now) c.args.e c.requires.accepted in
    (omega (arith, h.input_a, d.sized.roles), h.inner.1)

pub returns : goal.returns
returns c =
    let d = c.args.board in
    let g = graph_of d.vertices c.args.table.now in
    let put : Graph → List ℤ = λ g'. with_graph d.vertices g' c.args.table.now in
    c.rewrite.ensures
    ∙ ap (λ (z : ℤ). put (without_arcs c.undriven-undriven.result (inputs_shared c.args.a c.args.b c.args.k z g))) (to_z-of_z w32 c.args.e c.ranges.e)
    ∙ ap put (sym (fun_ext (λ u. fun_ext (λ v. c.undriven-undriven.ensures c.args.a c.args.e c.requires.accepted u v))))
