use Rattle.std.proofs.Common.{◌≡◌, true, false, sym, ◌∙◌, arith}
use Rattle.timing.specs.Table.{graph_of}
use Rattle.graph.specs.Count.{fan_out}
use Rattle.reduction.specs.Outcome.{is_inner}
use Rattle.plans.proofs.ShareConditions.{used, used_in}
use Rattle.plans.proofs.rows.is_free.Goals as goal
use Rattle.plans.proofs.rows.is_free.Goals.{then-is_inner, else-is_inner}

pub returns-then-fan_out-eq0 : goal.returns-then-fan_out-eq0
returns-then-fan_out-eq0 c =
    let b = c.args.table.now.board in
    let g = graph_of b.vertices c.args.table.now.cells.now in
    elim c.if-is_inner.branch [
      | then-is_inner w ↦
          let inner : is_inner b.inputs b.outputs b.vertices c.args.k ≡ true = sym c.is_inner.ensures ∙ w.if-is_inner.true in
          let none : fan_out b.vertices g c.args.k ≡ 0 = grind arith in
          simp (inner, used_in b.vertices g c.args.k none, c.none_into.ensures)
      | else-is_inner w ↦ grind arith
    ]

pub returns-else-fan_out-eq0 : goal.returns-else-fan_out-eq0
returns-else-fan_out-eq0 c =
    let b = c.args.table.now.board in
    let g = graph_of b.vertices c.args.table.now.cells.now in
    elim c.if-is_inner.branch [
      | then-is_inner w ↦
          let inner : is_inner b.inputs b.outputs b.vertices c.args.k ≡ true = sym c.is_inner.ensures ∙ w.if-is_inner.true in
          let some : fan_out b.vertices g c.args.k ≡ 0 → ⊥ = λ e. grind arith in
          simp (inner, used b.vertices g c.args.k some, c.if-fan_out-eq0.false)
      | else-is_inner w ↦
          let outer : is_inner b.inputs b.outputs b.vertices c.args.k ≡ false = sym c.is_inner.ensures ∙ w.if-is_inner.false in
          simp (outer, c.if-fan_out-eq0.false)
    ]
