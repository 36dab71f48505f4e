use Rattle.std.proofs.Common.{◌≡◌, ◌≤◌, drop, ℕ}
use Rattle.std.specs.Prelude.{IfSome, is_some}
use Rattle.timing.specs.Limits.{scratch_cells}
use Rattle.reduction.specs.Run.{reduce}
use Rattle.run.specs.Known.{KnownOf}
use Rattle.run.specs.Running.{progress, Running, Held}
use Rattle.run.proofs.Ending.{Toward, rounds_left}
use Rattle.run.proofs.calls.rounds.Given as goal

abbrev pub invariant-loop-next : goal.invariant-loop-next
invariant-loop-next l =
    let b = l.board in
    record {
      running : Running b (progress l.table l.steps);
      held : Held b l.matrix l.table;
      past : drop (scratch_cells b.vertices) l.scratch ≡ drop (scratch_cells b.vertices) l.initial.scratch;
      toward : (s : ℕ) → scratch_cells b.vertices ≤ s → Toward b.inputs b.outputs b.vertices s (reduce b.inputs b.outputs b.vertices s l.fn.table) (is_some l.next) (progress l.table l.steps);
      known : IfSome l.next (KnownOf b l.table);
    }

abbrev pub decreases-loop-next : goal.decreases-loop-next
decreases-loop-next l = rounds_left l.board.vertices (is_some l.next) l.table
