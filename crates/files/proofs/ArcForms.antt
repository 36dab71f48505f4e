-- Arcs, each written by itself: cell by cell, and one after another.
use mathlib.Core.Path.{◌≡◌, refl, sym, ap, ◌∙◌, subst}
use mathlib.Core.Bool.{true}
use mathlib.Core.List.{List, [], ◌∷◌, ◌++◌, append-nil}
use Prim.Native.Nat.{ℕ}
use lib.Dec.{T}
use lib.IntN.{ℤ}
use mir.Syntax.{w32}
use mir.Val.{SFits, to_z, of_z}
use mir.Facts.{to_z-of_z}
use Rattle.std.specs.List.{flat_map}
use Rattle.std.proofs.lemmas.Grind.{flat_map-append}
use Rattle.std.proofs.lemmas.List.Concat.{flat_map-cons}
use Rattle.graph.specs.Delay.{Delay, present, at}
use Rattle.timing.specs.Limits.{absent_cell, delay_limit, fits}
use Rattle.timing.specs.Table.{read_cell}
use Rattle.paths.proofs.ReadCells.{arc_cell}
use Rattle.format.specs.Arcs.{Arc, arc_in}
use Rattle.format.specs.Writing.{arc_record, arc_records}
use Rattle.format.specs.Text.{arc_line, arc_lines}
use Rattle.records.specs.Lines.{DelayInRange}
use Rattle.files.specs.Forms.{cell_as}
use Rattle.files.proofs.Turns.{Joins}

pub records_are : (xs : List Arc) → flat_map arc_record xs ≡ arc_records xs
unfolding arc_records
records_are [] = refl
records_are (a ∷ xs) = flat_map-cons arc_record a xs ∙ ap (λ (l : List ℕ). arc_record a ++ l) (records_are xs)

pub lines_are : (xs : List Arc) → flat_map arc_line xs ≡ arc_lines xs
unfolding arc_lines
lines_are [] = refl
lines_are (a ∷ xs) = flat_map-cons arc_line a xs ∙ ap (λ (l : List ℕ). arc_line a ++ l) (lines_are xs)

module _ (text : Arc → List ℕ) where
  pub arcs_join : Joins (flat_map text)
  arcs_join = record { none = refl; more = flat_map-append text }

  -- a cell, from what `is_arc` says of it
  module _ (u v : ℕ) (z : ℤ) where
    pub cell_arc : present (read_cell absent_cell z) ≡ true → cell_as text u v z ≡ text (record { from = u; to = v; delay = z })
    cell_arc e =
        let a : Arc = record { from = u; to = v; delay = z } in
        ap (λ (d : Delay). flat_map text (arc_in u v d)) (arc_cell z e) ∙ flat_map-cons text a [] ∙ append-nil (text a)

-- a cell with an arc, as the code holds it
module _ (z : ℤ) (f : SFits w32 z) (r : true ≡ present (read_cell absent_cell (to_z w32 (of_z w32 z)))) where
  held : to_z w32 (of_z w32 z) ≡ z
  held = to_z-of_z {w = w32} f

  arc : present (read_cell absent_cell z) ≡ true
  arc = ap (λ (y : ℤ). present (read_cell absent_cell y)) (sym held) ∙ sym r

  pub held_fits : T (fits delay_limit (read_cell absent_cell z)) → DelayInRange (to_z w32 (of_z w32 z))
  held_fits t = subst (λ (d : Delay). T (fits delay_limit d)) (arc_cell z arc ∙ ap (λ (y : ℤ). at y) (sym held)) t

  pub held_text : (text : Arc → List ℕ) (u v : ℕ) → cell_as text u v z ≡ text (record { from = u; to = v; delay = to_z w32 (of_z w32 z) })
  held_text text u v = cell_arc text u v z arc ∙ ap (λ (y : ℤ). text (record { from = u; to = v; delay = y })) (sym held)
