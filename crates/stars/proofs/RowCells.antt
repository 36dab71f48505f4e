-- The cells of a row after the step, case by case.
use mathlib.Core.Path.{◌≡◌, sym, ap, ◌∙◌}
use mathlib.Core.Bool.{Bool, true, false, cond, ◌&&◌}
use mathlib.Core.List.{List}
use Prim.Native.Nat.{ℕ, ◌<◌}
use native.Mathlib.Decide.{ℕ_discrete}
use native.Mathlib.Omega.{arith}
use lib.Dec.{eqb}
use lib.IntN.{ℤ, pos}
use lib.ListN.{length, get_or, set, length-set}
use lib.Seq.{get_or-set_same, get_or-set_other}
use Rattle.laws.specs.Bounded.{member}
use Rattle.laws.specs.Lists.{tabulate}
use Rattle.laws.proofs.Booleans.{eqb_same, eqb_other}
use Rattle.laws.proofs.Lists.{length-tabulate, get_d_tabulate, is_tabulate}
use Rattle.graph.specs.Delay.{ticks}
use Rattle.timing.specs.Limits.{absent_cell}
use Rattle.stars.specs.StarCells.{least_gap, meets, cleared_cell, source_cell, centre_cell, cell_after}
use Rattle.laws.proofs.Truth.{both, no_first, no_second}

module _ (row first : List ℤ) (Ts : List ℕ) (v : ℕ) where
  pub centre_target : member v Ts ≡ true → centre_cell row first Ts v ≡ get_or first v (pos 0)
  unfolding centre_cell
  centre_target m = ap (λ (b : Bool). cond b (get_or first v (pos 0)) (get_or row v (pos 0))) m

  pub centre_other : member v Ts ≡ false → centre_cell row first Ts v ≡ get_or row v (pos 0)
  unfolding centre_cell
  centre_other m = ap (λ (b : Bool). cond b (get_or first v (pos 0)) (get_or row v (pos 0))) m

  module _ (e : ℤ) where
    choose : (b : Bool) → (member v Ts && meets row first e v) ≡ b → cleared_cell row first Ts e v ≡ cond b absent_cell (get_or row v (pos 0))
    unfolding cleared_cell
    choose b q = ap (λ (x : Bool). cond x absent_cell (get_or row v (pos 0))) q

    pub cleared : member v Ts ≡ true → meets row first e v ≡ true → cleared_cell row first Ts e v ≡ absent_cell
    cleared m q = choose true (both (member v Ts) (meets row first e v) m q)

    pub kept : meets row first e v ≡ false → cleared_cell row first Ts e v ≡ get_or row v (pos 0)
    kept q = choose false (no_second (member v Ts) (meets row first e v) q)

    pub cleared_other : member v Ts ≡ false → cleared_cell row first Ts e v ≡ get_or row v (pos 0)
    cleared_other m = choose false (no_first (member v Ts) (meets row first e v) m)

-- a source's row, when the arc to the centre is stored last
module _ (row first : List ℤ) (Ts : List ℕ) (k : ℕ) (e : ℤ) where
  pub at_centre : (v : ℕ) → eqb v k ≡ true → source_cell row first Ts k e v ≡ e
  unfolding source_cell
  at_centre v q = ap (λ (b : Bool). cond b e (cleared_cell row first Ts e v)) q

  pub beside_centre : (v : ℕ) → eqb v k ≡ false → source_cell row first Ts k e v ≡ cleared_cell row first Ts e v
  unfolding source_cell
  beside_centre v q = ap (λ (b : Bool). cond b e (cleared_cell row first Ts e v)) q

  pub source_made : (l : List ℤ) (z : ℤ) → k < length row → l ≡ tabulate (length row) (cleared_cell row first Ts e) → z ≡ e → set l k z ≡ tabulate (length row) (source_cell row first Ts k e)
  source_made l z h q ez = is_tabulate (pos 0) (set l k z) (length row) (source_cell row first Ts k e) (length-set l k z ∙ same) (λ v j. go v j (ℕ_discrete v k))
    where
      same : length l ≡ length row
      same = ap length q ∙ length-tabulate (cleared_cell row first Ts e) (length row)

      go : (v : ℕ) → v < length row → Dec (v ≡ k) → get_or (set l k z) v (pos 0) ≡ source_cell row first Ts k e v
      go v j (yes p) = ap (λ (x : ℕ). get_or (set l k z) x (pos 0)) p ∙ get_or-set_same l k z (pos 0) (omega (arith, same)) ∙ ez ∙ sym (at_centre v (ap (λ (x : ℕ). eqb x k) p ∙ eqb_same k))
      go v j (no n) =
          get_or-set_other l k v z (pos 0) n ∙ ap (λ (x : List ℤ). get_or x v (pos 0)) q ∙ get_d_tabulate (cleared_cell row first Ts e) (length row) v (pos 0) j
          ∙ sym (beside_centre v (eqb_other v k n))

-- any row
module _ (row first : List ℤ) (Ts : List ℕ) (k u : ℕ) (source : Bool) (v : ℕ) where
  pub of_centre : eqb u k ≡ true → cell_after row first Ts k u source v ≡ centre_cell row first Ts v
  unfolding cell_after
  of_centre q = ap (λ (b : Bool). cond b (centre_cell row first Ts v) (cond source (source_cell row first Ts k (ticks (least_gap row first Ts)) v) (get_or row v (pos 0)))) q

  pub of_source : eqb u k ≡ false → source ≡ true → cell_after row first Ts k u source v ≡ source_cell row first Ts k (ticks (least_gap row first Ts)) v
  unfolding cell_after
  of_source q r = λ i. cond (q i) (centre_cell row first Ts v) (cond (r i) (source_cell row first Ts k (ticks (least_gap row first Ts)) v) (get_or row v (pos 0)))

  pub of_other : eqb u k ≡ false → source ≡ false → cell_after row first Ts k u source v ≡ get_or row v (pos 0)
  unfolding cell_after
  of_other q r = λ i. cond (q i) (centre_cell row first Ts v) (cond (r i) (source_cell row first Ts k (ticks (least_gap row first Ts)) v) (get_or row v (pos 0)))
