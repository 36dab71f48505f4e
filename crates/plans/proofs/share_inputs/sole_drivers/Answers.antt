use Rattle.std.proofs.Common.{◌≡◌, ◌+◌, ◌≤◌, ℕ, sym, ◌∙◌, ◌&&◌, leb, ltb, subst, arith}
use lib.Dec.{le→leb, lt→ltb}
use Rattle.laws.proofs.Booleans.{and_i, is_true}
use Rattle.paths.specs.Tables.{timing_graph}
use Rattle.plans.proofs.SoleDrivers.{Sought, sought_none, sought_all, sought_quiet, sought_two, sought_undriven, sought_one}
use Rattle.plans.proofs.share_inputs.sole_drivers.Goals as goal
use Rattle.plans.proofs.share_inputs.sole_drivers.Goals.{then-fan_out-gt0+in-Some+then-is_none, then-fan_out-gt0+in-Some+else-is_none, else-fan_out-gt0}

pub loop-u-init : goal.loop-u-init
loop-u-init c = let t = c.args.table.now in sought_none t.board.inputs t.board.outputs t.board.vertices (timing_graph t) c.empty-drivers.result c.empty-drivers.ensures

pub returns-in_default : goal.returns-in_default
returns-in_default c b l =
    let u = c.loop-u in
    let t = c.args.table.now in
    let n = t.board.vertices in
    c.range.ensures b ∙ is_true (leb 0 b && ltb b n) (and_i (leb 0 b) (ltb b n) (le→leb 0 b (omega arith)) (lt→ltb b n l))
    ∙ sym (sought_undriven t.board.inputs t.board.outputs n (timing_graph t) u.u u.drivers u.invariant (omega (arith, u.auto.u)) c.loop-u-test.true (omega (arith, c.fan_out.ensures, c.if-fan_out-gt0.true)) c.in_default.ensures b l)

pub loop-u-preserved : goal.loop-u-preserved
loop-u-preserved c =
    let u = c.loop-u in
    let t = c.args.table.now in
    let m = t.board.inputs in
    let n = t.board.outputs in
    let N = t.board.vertices in
    let g = timing_graph t in
    let low : m + n ≤ u.u = omega (arith, u.auto.u) in
    elim c.if-fan_out-gt0.branch [
      | then-fan_out-gt0+in-Some+then-is_none w ↦ rw w.drivers-is (sought_one m n N g u.u u.drivers u.invariant low c.loop-u-test.true (omega (arith, c.fan_out.ensures, w.if-fan_out-gt0.true)) w.in-Some.v w.in-Some.ensures.0 w.in-Some.ensures.1
          w.next_into-then-fan_out-gt0.result w.next_into-then-fan_out-gt0.ensures w.if-is_none.ensures w.plus-drivers.result w.plus-drivers.ensures)
      | then-fan_out-gt0+in-Some+else-is_none w ↦ rw w.drivers-is (sought_two m n N g u.u u.drivers u.invariant w.in-Some.v w.in-Some.ensures.0 w.in-Some.ensures.1 w.next_into-then-fan_out-gt0.result w.next_into-then-fan_out-gt0.ensures w.if-is_none.ensures)
      | else-fan_out-gt0 w ↦ rw w.drivers-is (sought_quiet m n N g u.u u.drivers u.invariant (omega (arith, c.fan_out.ensures, w.if-fan_out-gt0.false)))
    ]

pub returns : goal.returns
returns c b l =
    let u = c.loop-u in
    let t = c.args.table.now in
    let end : u.u ≡ t.board.vertices = omega (arith, u.auto.u, u.auto.u-end, c.loop-u-test.false, t.board.sized.roles) in
    sought_all t.board.inputs t.board.outputs t.board.vertices (timing_graph t) u.drivers (subst (λ (v : ℕ). Sought t.board.inputs t.board.outputs t.board.vertices (timing_graph t) v u.drivers) end u.invariant) b l
