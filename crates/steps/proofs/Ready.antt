-- What each step's new table asks, from its accepted verdict.
use mathlib.Core.Path.{◌≡◌, sym, ap, ◌∙◌, subst}
use mathlib.Core.List.{List}
use Prim.Native.Nat.{ℕ, ◌+◌, ◌^◌, ◌<◌, ◌≤◌}
use native.Mathlib.Omega.{arith}
use mir.Syntax.{w32, w64}
use mir.Val.{to_z, of_z, hbits}
use mir.Facts.{to_z-of_z}
use lib.IntN.{ℤ}
use lib.Signed.{mag}
use lib.Dec.{T}
use Rattle.laws.specs.Bounded.{every}
use Rattle.laws.proofs.Signed.{back, widens}
use Rattle.graph.specs.Delay.{at, ◌⊕◌}
use Rattle.graph.specs.Graph.{Graph}
use Rattle.timing.specs.Limits.{delay_limit, fits}
use Rattle.timing.specs.Refusal.{Verdict, accepted}
use Rattle.timing.specs.Table.{graph_of}
use Rattle.timing.proofs.Checks.{sound_fits}
use Rattle.reduction.specs.MergeBack.{merge_fits, merge_back_verdict}
use Rattle.reduction.specs.ShareInputs.{share_inputs_verdict}
use Rattle.reduction.specs.ShareOutputs.{share_outputs_verdict}
use Rattle.reduction.specs.Shrink.{shrink_verdict}
use Rattle.reduction.proofs.Accepted.{shrink_accepted, share_inputs_accepted, share_outputs_accepted}
use Rattle.paths.specs.declared.board.Board.{Board}
use Rattle.plans.specs.MergedRow.{Drives}
use Rattle.plans.proofs.SumCells.{delay_narrow}
use Rattle.plans.proofs.Drivers.{verdict_drives}
use Rattle.paths.specs.Checked.{Checked}

pub shrink_ready : (m n N k : ℕ) (g : Graph) → shrink_verdict m n N k g ≡ accepted tt → (k < N) × T (every N (λ u. every N (λ t. fits delay_limit (g u k ⊕ g k t))))
shrink_ready m n N k g q = let h = shrink_accepted m n N k g tt q in (h.inner.1, h.in_range)

-- the driver's delay is handed over as its bits
pub merge_ready : (b : Board) (t : List ℤ) (o : ℕ) → Checked b t → (v : ℕ) (d : ℤ) → merge_back_verdict b.inputs b.outputs b.vertices o (graph_of b.vertices t) ≡ accepted (v, d)
    → (to_z w32 (of_z w32 d) ≡ d) × Drives b.vertices t v o (to_z w32 (of_z w32 d)) × T (merge_fits b.vertices (graph_of b.vertices t) v o (to_z w32 (of_z w32 d)))
merge_ready b t o c v d q =
    let r = verdict_drives b.vertices t o (sound_fits c.sound) b.inputs b.outputs b.sized.roles (v, d) q in
    let kept : to_z w32 (of_z w32 d) ≡ d = to_z-of_z (delay_narrow d r.0.legal) in
    (kept, subst (Drives b.vertices t v o) (sym kept) r.0, subst (λ (x : ℤ). T (merge_fits b.vertices (graph_of b.vertices t) v o x)) (sym kept) r.1)

-- of the shares: the difference e goes in 64 bits to narrow, whose answer goes in 32 to the new table
module _ (e : ℤ) (r : T (fits delay_limit (at e))) where
  wide_back : to_z w64 (of_z w64 e) ≡ e
  wide_back = to_z-of_z (widens (delay_narrow e r))

  pub narrow_fits : T (fits delay_limit (at (to_z w64 (of_z w64 e))))
  narrow_fits = subst (λ (x : ℤ). T (fits delay_limit (at x))) (sym wide_back) r

  pub narrowed : (z : ℤ) → mag z < 2 ^ hbits w32 → z ≡ to_z w64 (of_z w64 e) → to_z w32 (of_z w32 z) ≡ e
  narrowed z ok p = back w32 z ok ∙ p ∙ wide_back

  pub narrowed_accepted : {v : Verdict ℤ} → v ≡ accepted e → (z : ℤ) → mag z < 2 ^ hbits w32 → z ≡ to_z w64 (of_z w64 e) → v ≡ accepted (to_z w32 (of_z w32 z))
  narrowed_accepted q z ok p = q ∙ ap accepted (sym (narrowed z ok p))

pub share_inputs_ready : (m n N a b k : ℕ) (g : Graph) (e : ℤ) → share_inputs_verdict m n N a b k g ≡ accepted e → T (fits delay_limit (at e))
share_inputs_ready m n N a b k g e q = (share_inputs_accepted m n N a b k g e q).in_range

pub share_outputs_ready : (m n N a b : ℕ) (g : Graph) (e : ℤ) → m + n ≤ N → share_outputs_verdict m n N a b g ≡ accepted e → (b < N) × T (fits delay_limit (at e))
share_outputs_ready m n N a b g e room q = let h = share_outputs_accepted m n N a b g e q in (omega (arith, h.output_b.1), h.in_range)
