use Rattle.std.proofs.Common.{◌≡◌, Bool, true, false, length, refl, sym, ap, ◌∙◌, subst, arith}
use Rattle.std.specs.Prelude.{Option, IfSome, is_some}
use Rattle.std.specs.Bool.{then_some}
use Rattle.timing.specs.Limits.{scratch_cells}
use Rattle.reduction.specs.Run.{tries, reduce}
use Rattle.reduction.proofs.Run.{tries_gain}
use Rattle.run.specs.declared.round.Known.{Known}
use Rattle.run.specs.Known.{KnownOf}
use Rattle.run.specs.Running.{progress}
use Rattle.paths.specs.declared.board.Board.{Board}
use Rattle.run.proofs.Moving.{running_on, held_on}
use Rattle.run.proofs.Ending.{Toward, toward_next, fewer_left, runs_done}
use Rattle.run.proofs.HeldMatrix.{held_start}
use Rattle.run.proofs.Trying.{running_start}
use Rattle.run.proofs.Lines.{pairs_fit}
use Rattle.run.proofs.calls.rounds.Goals as goal

pub fill_matrix-requires-clause-inputs_in_bounds : goal.fill_matrix-requires-clause-inputs_in_bounds
fill_matrix-requires-clause-inputs_in_bounds c = pairs_fit c.args.board

pub loop-next-init : goal.loop-next-init
unfolding reduce
loop-next-init c = record {
  running = running_start c.requires.passable.checked;
  held = held_start c.requires.passable _ _ c.fill_matrix.ensures.destination_after;
  past = refl;
  toward = λ s room. refl;
  known = c.requires.passable;
}

-- whether there is a next round, and what is known for it
goes_on : (x : Bool) (known : Known) (next : Option Known) → next ≡ then_some x known → is_some next ≡ x
goes_on true known next e = ap is_some e
goes_on false known next e = ap is_some e

known_next : (b : Board) (t : _) (x : Bool) (known : Known) (next : Option Known) → next ≡ then_some x known → KnownOf b t known → IfSome next (KnownOf b t)
known_next b t true known next e h = rw e h
known_next b t false known next e h = rw e tt

pub loop-next-smaller : goal.loop-next-smaller
loop-next-smaller c =
    let b = c.args.board in
    let s = scratch_cells b.vertices in
    let before = progress c.loop-next.table c.loop-next.steps in
    let after = progress c.round-after.new.table c.round-after.result.0 in
    rw (goes_on _ _ _ c.then_some-next.ensures, c.in-Some.is) (fewer_left b.inputs b.outputs b.vertices s before after (c.round-after.ensures.leads s (omega arith)))

pub loop-next-preserved : goal.loop-next-preserved
loop-next-preserved c =
    let b = c.args.board in
    let before = progress c.loop-next.table c.loop-next.steps in
    let after = progress c.round-after.new.table c.round-after.result.0 in
    let gain = tries_gain b.inputs b.outputs b.vertices in
    let goal = reduce b.inputs b.outputs b.vertices in
    let h = c.loop-next.invariant in
    record {
      running = running_on b (tries b.inputs b.outputs b.vertices) before after gain c.round-after.ensures.leads h.running;
      held = held_on b (tries b.inputs b.outputs b.vertices) before after gain c.round-after.ensures.leads c.fill_matrix.new.destination h.held;
      past = c.round-after.ensures.past_scratch ∙ h.past;
      toward = λ s room.
          subst (λ (x : Bool). Toward b.inputs b.outputs b.vertices s (goal s c.args.table.now) x after) (sym (goes_on _ _ _ c.then_some-next.ensures))
          (toward_next b.inputs b.outputs b.vertices s before after (c.round-after.ensures.leads s room) (goal s c.args.table.now) (rw (ap is_some c.in-Some.is) at (h.toward s room)));
      known = known_next b c.round-after.new.table _ _ _ c.then_some-next.ensures c.round-after.ensures.known_next;
    }

pub returns-clause-runs : goal.returns-clause-runs
returns-clause-runs c =
    let b = c.args.board in
    let s = length c.args.scratch.now in
    runs_done b.inputs b.outputs b.vertices s c.args.table.now c.loop-next.table c.loop-next.steps c.arcs.result (sym (rw (ap is_some c.in_default.is) at (c.loop-next.invariant.toward s c.requires.scratch_room))) c.arcs.ensures
