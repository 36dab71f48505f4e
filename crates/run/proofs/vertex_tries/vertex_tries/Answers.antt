use Rattle.std.proofs.Common.{◌≡◌, ap, ◌∙◌, ℕ, ◌+◌, arith}
use Rattle.reduction.specs.Run.{Try, try_step}
use Rattle.paths.specs.declared.board.Board.{Board}
use Rattle.run.specs.Running.{progress}
use Rattle.run.specs.VertexSteps.{VertexStep, vertex_step, first_vertex, vertex_count}
use Rattle.run.proofs.Moving.{gained}
use Rattle.run.proofs.Trying.{try_reaches, try_runs, gained_is}
use Rattle.run.proofs.LeanRounds.{lean_tried}
use Rattle.run.proofs.Sweeping.{swept_next, swept_all}
use Rattle.run.proofs.vertex_tries.vertex_tries.Goals as goal

-- the try of vertex v
abbrev try_of : Board → VertexStep → ℕ → ℕ → Try
try_of b kind s v = try_step b.inputs b.outputs b.vertices s (vertex_step kind v)

abbrev from : Board → VertexStep → ℕ
from b kind = first_vertex kind b.inputs b.outputs

abbrev times : Board → VertexStep → ℕ
times b kind = vertex_count kind b.inputs b.outputs b.vertices

pub loop-v-preserved : goal.loop-v-preserved
loop-v-preserved g c =
    let b = c.args.board in
    let k = g.K.VertexStep.kind in
    let q = vertex_step k c.loop-v.v in
    let after = c.try_at.new.table in
    let i = c.loop-v.invariant in
    let done = c.loop-v.done + c.from-done.result in
    let e : done ≡ c.loop-v.done + gained c.try_at.result = ap (λ (x : ℕ). c.loop-v.done + x) (c.from-done.ensures ∙ gained_is c.try_at.result) in
    let reached = try_reaches i.running q after c.try_at.result c.try_at.ensures done e in
    record {
      running = try_runs i.running q after c.try_at.result c.try_at.ensures done e;
      lean = lean_tried b k c.loop-v.v (progress c.loop-v.table c.loop-v.done) (progress after done) reached i.lean;
      swept = swept_next b.vertices (try_of b k) (from b k) (times b k) (progress c.args.table.now c.args.steps) c.loop-v.v (progress c.loop-v.table c.loop-v.done) (progress after done) (omega (arith, c.end-v-end.ensures, c.loop-v-test.true)) reached i.swept;
    }

pub returns : goal.returns
returns g c =
    let b = c.args.board in
    let k = g.K.VertexStep.kind in
    swept_all b.vertices (try_of b k) (from b k) (times b k) (progress c.args.table.now c.args.steps) c.loop-v.v (progress c.loop-v.table c.loop-v.done) (omega (arith, c.end-v-end.ensures, c.loop-v-test.false)) c.loop-v.invariant.swept
