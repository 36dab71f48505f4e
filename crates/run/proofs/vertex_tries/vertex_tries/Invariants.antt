use Rattle.reduction.specs.Run.{try_step}
use Rattle.run.specs.Running.{progress, Running, LeanOn}
use Rattle.run.specs.VertexSteps.{vertex_step, first_vertex, vertex_count}
use Rattle.run.proofs.Sweeping.{Swept}
use Rattle.run.proofs.vertex_tries.vertex_tries.Given as goal

abbrev pub invariant-loop-v : goal.invariant-loop-v
invariant-loop-v g l =
    let b = l.board in
    let k = g.K.VertexStep.kind in
    record {
      running : Running b (progress l.table l.done);
      lean : LeanOn b l.table;
      swept : Swept b.vertices (λ s v. try_step b.inputs b.outputs b.vertices s (vertex_step k v)) (first_vertex k b.inputs b.outputs) (vertex_count k b.inputs b.outputs b.vertices) (progress l.fn.table l.steps) l.v (progress l.table l.done);
    }
