-- The driver of an output, and the cell of its arc.
use mathlib.Core.Path.{◌≡◌, ap, sym, ◌∙◌, subst}
use mathlib.Core.List.{List}
use Prim.Native.Nat.{ℕ, ◌+◌, ◌≤◌, ◌<◌}
use native.Mathlib.Omega.{arith}
use lib.Dec.{T, leb, ltb, ltb→lt}
use lib.IntN.{ℤ}
use Rattle.laws.proofs.Booleans.{and_e}
use Rattle.laws.proofs.Bounded.{first_holds}
use Rattle.graph.specs.Delay.{Delay, at, present, ticks}
use Rattle.graph.proofs.Presence.{ticks_is}
use Rattle.timing.specs.Limits.{delay_limit, absent_cell, fits}
use Rattle.timing.specs.Refusal.{accepted}
use Rattle.timing.specs.Table.{read_cell, graph_of}
use Rattle.reduction.specs.Outcome.{is_output}
use Rattle.reduction.specs.MergeBack.{driver, driver_delay, merge_fits, merge_back_verdict}
use Rattle.reduction.proofs.Accepted.{merge_back_accepted}
use Rattle.paths.proofs.ReadCells.{arc_cell}
use Rattle.plans.specs.MergedRow.{Drives}

pub output_below : (m n N o : ℕ) → m + n ≤ N → T (is_output m n o) → o < N
output_below m n N o h t = omega (arith, ltb→lt o (m + n) (and_e (leb m o) (ltb o (m + n)) t).1)

-- the number in a cell of delay z
pub cell_ticks_lem : (d z : ℤ) → read_cell absent_cell d ≡ at z → d ≡ z
cell_ticks_lem d z e = ap ticks (sym (arc_cell d (ap present e)) ∙ e)

module _ (N : ℕ) (t : List ℤ) (o : ℕ) (range : (u v : ℕ) → T (fits delay_limit (graph_of N t u v))) where
  pub driver_drives : o < N → driver N (graph_of N t) o < N → Drives N t (driver N (graph_of N t) o) o (driver_delay N (graph_of N t) o)
  unfolding driver driver_delay
  driver_drives h l = record { from_below = l; to_below = h; arc = arc; legal = subst (λ (x : Delay). T (fits delay_limit x)) arc (range (driver N (graph_of N t) o) o) }
    where
      arc : graph_of N t (driver N (graph_of N t) o) o ≡ at (driver_delay N (graph_of N t) o)
      arc = ticks_is (graph_of N t (driver N (graph_of N t) o) o) (first_holds N (λ u. present (graph_of N t u o)) l)

  -- what `merge_back_apply` asks, from an accepted verdict
  pub verdict_drives : (m n : ℕ) → m + n ≤ N → (x : ℕ × ℤ) → merge_back_verdict m n N o (graph_of N t) ≡ accepted x
      → Drives N t x.0 o x.1 × T (merge_fits N (graph_of N t) x.0 o x.1)
  verdict_drives m n roles x q =
      let h = merge_back_accepted m n N o (graph_of N t) x q in
      subst (λ (y : ℕ × ℤ). Drives N t y.0 o y.1 × T (merge_fits N (graph_of N t) y.0 o y.1)) h.answer
      (driver_drives (omega (arith, h.output.1)) h.inner.1, h.in_range)
