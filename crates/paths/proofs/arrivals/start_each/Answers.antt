use Rattle.std.proofs.Common.{◌≡◌, ◌+◌, ℕ, ℤ, length, sym, ap, ap₂, ◌∙◌, arith}
use Rattle.laws.specs.Lists.{tabulate}
use Rattle.paths.specs.Arrivals.{stored, lane, only_at}
use Rattle.paths.proofs.Starting.{one_time, stored-length, stored_all}
use Rattle.paths.proofs.Lanes.{lane_room, lane-length, lanes_part, lanes_turn, lanes_past}
use Rattle.paths.proofs.arrivals.start_each.Goals as goal

pub loop-l-preserved : goal.loop-l-preserved
loop-l-preserved g c =
    let n = c.args.n in
    let l = c.loop-l.l in
    let f₀ = c.args.f.now in
    let room = lane_room n l g.row.LANES f₀ c.loop-l-test.true c.requires.room in
    let long : length (lane n l f₀) ≡ n = lane-length n l f₀ room in
    let q : c.start.new.f ≡ stored n (only_at (c.args.i + l)) (lane n l f₀) = c.start.ensures ∙ ap₂ (λ (k : ℕ) (h : ℕ → ℤ). tabulate k h) (ap length (lanes_part c.loop-l.invariant) ∙ long) (one_time (c.args.i + l)) ∙ sym (stored_all n (only_at (c.args.i + l)) (lane n l f₀) long) in
    lanes_turn c.loop-l.invariant room c.start.new.f (ap length q ∙ stored-length n (only_at (c.args.i + l)) (lane n l f₀) (omega arith) ∙ long) q

pub returns-clause-past : goal.returns-clause-past
returns-clause-past g c =
    let e : c.loop-l.l ≡ g.row.LANES = omega arith in
    rw e at (lanes_past c.loop-l.invariant)
