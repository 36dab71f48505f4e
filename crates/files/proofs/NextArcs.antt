-- The record at an offset as a step of pass 2.
use Rattle.std.specs.Prelude.{Some}
use Rattle.files.specs.declared.place.Placed.{Placed}
use Rattle.std.specs.Prelude.{Option}
use mathlib.Core.Path.{◌≡◌, sym, ap, ◌∙◌}
use mathlib.Core.List.{List}
use Prim.Native.Nat.{ℕ, ◌+◌}
use native.Mathlib.Omega.{arith}
use lib.IntN.{ℤ}
use lib.ListN.{length}
use Rattle.graph.specs.Delay.{Delay, at}
use Rattle.graph.specs.Graph.{Graph}
use Rattle.timing.specs.Limits.{absent_cell}
use Rattle.timing.specs.Refusal.{accepted}
use Rattle.timing.specs.Table.{read_cell, write_cell}
use Rattle.timing.proofs.Limits.{not_mark}
use Rattle.timing.proofs.Table.{read_at}
use Rattle.format.specs.declared.Record.TheVariants as R
use Rattle.format.specs.Library.{InForce, value_of}
use Rattle.format.specs.Records.{cell_delay, record_at}
use Rattle.format.specs.Reading.{worked_of, board_shape, with_arc, with_record}
use Rattle.files.specs.Place.{Places, NextWithin}
use Rattle.format.proofs.AcceptedRecords.{legal}
use Rattle.files.proofs.CellLoads.{delay_held}

module _ (l : List ℤ) (N : ℕ) (s : List ℕ) (load : ℕ → ℕ) (p : ℕ) where
  abbrev pub Steps : Option Placed → Type 0
  Steps x = Places l N s load p x × NextWithin N (length s) p x

  -- the graph with the arc as the code stores it
  stored : (u v q : ℕ) (z : ℤ) (d : Delay) → read_cell absent_cell z ≡ d → (g : Graph) (onward : ℕ → Graph → Graph) → onward q (with_arc u v (read_cell absent_cell z) g) ≡ onward q (with_arc u v d g)
  stored u v q z d e g onward = ap (λ (x : Delay). onward q (with_arc u v x g)) e

  module _ (u v : ℕ) (z : ℤ) where
    pub arc_steps : (d : ℤ) → record_at N s p ≡ accepted (R.Arc u v d) → z ≡ d → Steps (Some (record { from = u; to = v; delay = z; next = (p + 8) }))
    arc_steps d e q =
        let k = legal N s p (R.Arc u v d) e in
        let h : read_cell absent_cell z ≡ at d = ap (read_cell absent_cell) q ∙ read_at absent_cell d (not_mark d k.3) in
        (λ g onward. stored u v (p + 8) z (at d) h g onward ∙ sym (ap (worked_of (board_shape N) (with_record l load) p g onward) e), (k.1, k.2, omega arith, k.0))

    pub cell_steps : InForce l → (c : ℕ) → record_at N s p ≡ accepted (R.Cell u v c) → z ≡ write_cell absent_cell (value_of (cell_delay l c (load v))) → Steps (Some (record { from = u; to = v; delay = z; next = (p + 5) }))
    cell_steps ok c e q =
        let k = legal N s p (R.Cell u v c) e in
        let h : read_cell absent_cell z ≡ value_of (cell_delay l c (load v)) = delay_held l ok c (load v) z q in
        (λ g onward. stored u v (p + 5) z (value_of (cell_delay l c (load v))) h g onward ∙ sym (ap (worked_of (board_shape N) (with_record l load) p g onward) e), (k.1, k.2, omega arith, k.0))
