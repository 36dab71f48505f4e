-- What a round keeps of a lean table.
use mathlib.Core.Path.{◌≡◌, refl, sym, subst}
use mathlib.Core.Bool.{false, not}
use mathlib.Core.List.{List, [], ◌∷◌}
use Prim.Native.Nat.{ℕ}
use native.Mathlib.Omega.{arith}
use lib.Dec.{T, le→leb}
use lib.IntN.{ℤ}
use Rattle.laws.proofs.Booleans.{true_is}
use Rattle.graph.specs.Count.{fan_out}
use Rattle.timing.specs.Limits.{scratch_cells}
use Rattle.timing.specs.Refusal.{Verdict, refused, accepted, is_accepted, ◌then◌}
use Rattle.timing.specs.Table.{graph_of, with_graph}
use Rattle.reduction.specs.Shrink.{shrink_verdict, shrunk}
use Rattle.reduction.specs.Steps.{shrink, plan}
use Rattle.reduction.specs.Run.{Progress, numbers, try_step}
use Rattle.reduction.proofs.LeanSteps.{sink_refused}
use Rattle.reduction.proofs.LeanRun.{prune_idle, prune_leaves, steps_lean, shrinks_lean, merges_lean}
use Rattle.paths.specs.declared.board.Board.{Board}
use Rattle.paths.specs.Checked.{Checked}
use Rattle.run.specs.VertexSteps.{VertexStep, Shrink, MergeBack}
use Rattle.run.specs.VertexSteps.{vertex_step, first_vertex, vertex_count, kind_tries}
use Rattle.run.specs.Running.{Running, LeanOn, TriesStep, Reaches, prune_try}
use Rattle.run.proofs.Moving.{checked-passes}

module _ (b : Board) where
  -- prune leaves one
  pub lean_pruned : (p q : Progress) → Running b p → Reaches b.vertices (prune_try b) p q → LeanOn b q.table
  lean_pruned p q run way =
      let s = scratch_cells b.vertices in
      subst (λ (x : Progress). LeanOn b x.table) (way s (omega arith)) (prune_leaves b.inputs b.outputs b.vertices s p (checked-passes run.checked) (le→leb s s (omega arith)))

  -- and is refused on one
  pub lean_idle : (p : Progress) → LeanOn b p.table → Reaches b.vertices (prune_try b) p p
  lean_idle p h s room = prune_idle b.inputs b.outputs b.vertices s p h

  -- shrink and merge back leave one lean
  pub lean_on : (kind : VertexStep) (p q : Progress) → Reaches b.vertices (kind_tries b kind) p q → LeanOn b p.table → LeanOn b q.table
  lean_on Shrink p q way h =
      let s = scratch_cells b.vertices in
      subst (λ (x : Progress). LeanOn b x.table) (way s (omega arith)) (shrinks_lean b.inputs b.outputs b.vertices s (numbers (first_vertex Shrink b.inputs b.outputs) (vertex_count Shrink b.inputs b.outputs b.vertices)) p h)
  lean_on MergeBack p q way h =
      let s = scratch_cells b.vertices in
      subst (λ (x : Progress). LeanOn b x.table) (way s (omega arith)) (merges_lean b.inputs b.outputs b.vertices s (numbers (first_vertex MergeBack b.inputs b.outputs) (vertex_count MergeBack b.inputs b.outputs b.vertices)) p h)

  pub lean_tried : (kind : VertexStep) (v : ℕ) (p q : Progress) → Reaches b.vertices (λ s. try_step b.inputs b.outputs b.vertices s (vertex_step kind v) ∷ []) p q → LeanOn b p.table → LeanOn b q.table
  lean_tried Shrink v p q way h =
      let s = scratch_cells b.vertices in
      subst (λ (x : Progress). LeanOn b x.table) (way s (omega arith)) (steps_lean b.inputs b.outputs b.vertices s (vertex_step Shrink v ∷ []) p (tt, tt) h)
  lean_tried MergeBack v p q way h =
      let s = scratch_cells b.vertices in
      subst (λ (x : Progress). LeanOn b x.table) (way s (omega arith)) (steps_lean b.inputs b.outputs b.vertices s (vertex_step MergeBack v ∷ []) p (tt, tt) h)

  -- shrink is refused at a vertex without arcs out
  pub sink_tries : (t : List ℤ) (k : ℕ) → Checked b t → LeanOn b t → fan_out b.vertices (graph_of b.vertices t) k ≡ 0 → TriesStep b (shrink k) t t false
  unfolding plan
  sink_tries t k ok lean none = go (shrink_verdict b.inputs b.outputs b.vertices k (graph_of b.vertices t)) refl
    where
      put : Verdict (Unit {0}) → Verdict (List ℤ)
      put v = v then (λ _. accepted (shrunk k (graph_of b.vertices t))) then λ g'. accepted (with_graph b.vertices g' t)

      go : (x : Verdict (Unit {0})) → shrink_verdict b.inputs b.outputs b.vertices k (graph_of b.vertices t) ≡ x → TriesStep b (shrink k) t t false
      go (refused r) e = record { taken = λ z. absurd (true_is z); refused = λ _. (subst (λ (x : Verdict (Unit {0})). T (not (is_accepted (put x)))) (sym e) tt, refl) }
      go (accepted x) e = absurd (sink_refused k ok.sound lean none x e)
