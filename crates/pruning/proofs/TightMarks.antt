-- The marks on a row's tight arcs, made along its chain.
use mathlib.Core.Path.{◌≡◌, sym, ap, ◌∙◌}
use mathlib.Core.Logic.{◌≢◌}
use mathlib.Core.Bool.{Bool, true, false, ◌||◌}
use mathlib.Core.List.{List}
use Prim.Native.Nat.{ℕ, ◌+◌, ◌<◌}
use native.Mathlib.Omega.{arith}
use native.Mathlib.Decide.{dec_lt}
use lib.IntN.{ℤ, pos}
use lib.ListN.{length, get_or, set}
use Rattle.laws.specs.Bounded.{some}
use Rattle.laws.proofs.Somewhere.{some_zero, some_more, some_skip, or_true, or_none}
use Rattle.graph.specs.Delay.{Delay, absent}
use Rattle.graph.proofs.Presence.{not-present}
use Rattle.timing.specs.Limits.{absent_cell, absent_wide}
use Rattle.timing.specs.Table.{read_cell}
use Rattle.timing.specs.Delays.{arrival_in}
use Rattle.timing.proofs.Table.{read_absent}
use Rattle.paths.specs.Cells.{cell_at}
use Rattle.paths.specs.Chain.{walked_at, Walkable}
use Rattle.paths.proofs.Walked.{walked_is, walked-first}
use Rattle.paths.proofs.Chaining.{Along, along_start, along_turn, along_keep}
use Rattle.pruning.specs.TightArcs.{tight}
use Rattle.pruning.specs.PruneMarks.{tight_in}
use Rattle.pruning.proofs.TightCells.{no_arc_tight}

module _ (r : List ℤ) (c : List ℕ) (a : ℤ) (f : List ℤ) (old : List Bool) where
  abbrev row : ℕ → Delay
  row = walked_at r c

  abbrev at : ℕ → Bool
  at = tight_in row a f

  -- a cell with its mark
  abbrev Mark : ℕ → Bool → Type 0
  Mark j b = b ≡ (get_or old j false || at j)

  -- the arcs before v are marked, and `found` says whether there is a tight one
  pub record TightBefore (marks : List Bool) (found : Bool) (v : ℕ) : Type 0 where
    pub along : Along Mark false (length r) row old marks v
    pub any : found ≡ some v at

  module _ (p : Walkable r c) (same : length old ≡ length r) where
    not_tight : (j : ℕ) → row j ≡ absent → at j ≡ false
    not_tight j e = no_arc_tight (read_cell absent_wide a) (row j) (arrival_in f j) e

    -- where there is no arc, nothing is marked
    idle : (j : ℕ) → j < length r → row j ≡ absent → Mark j (get_or old j false)
    idle j _ e = sym (or_none (get_or old j false)) ∙ ap (λ (b : Bool). get_or old j false || b) (sym (not_tight j e))

    -- vertex 0 is an input, and then comes the first arc
    pub tight_start : TightBefore old false (get_or c 0 0)
    tight_start = record {
      along = along_start p.chain old idle p.some first;
      any = sym (some_skip at 0 _ (omega arith) (λ j _ m. not_tight j (none j m (dec_lt 0 j))) ∙ some_zero at);
    }
      where
        first : row 0 ≡ absent
        first = walked-first p.chain (cell_at r) p.some

        none : (j : ℕ) → j < get_or c 0 0 → Dec (0 < j) → row j ≡ absent
        none j m (yes l) = p.chain.between 0 j p.some l m
        none j m (no l) = ap row (let e : j ≡ 0 = omega arith in e) ∙ first

    module _ (v : ℕ) (l : v < length r) where
      -- none is found before the next arc
      onward : some (get_or c v 0) at ≡ (some v at || at v)
      onward = some_skip at (v + 1) _ (omega (arith, (p.chain.on v l).0)) (λ j k m. not_tight j (p.chain.between v j l (omega arith) m)) ∙ some_more at v

      pub tight_turn : {marks : List Bool} {found : Bool} → TightBefore marks found v → at v ≡ true → TightBefore (set marks v true) true (get_or c v 0)
      tight_turn b e = record {
        along = along_turn p.chain old idle b.along l (omega (arith, same)) true (or_true (get_or old v false) ∙ ap (λ (b : Bool). get_or old v false || b) (sym e));
        any = or_true (some v at) ∙ ap (λ (b : Bool). some v at || b) (sym e) ∙ sym onward;
      }

      pub tight_keep : {marks : List Bool} {found : Bool} → TightBefore marks found v → at v ≡ false → TightBefore marks found (get_or c v 0)
      tight_keep b e = record {
        along = along_keep p.chain old idle b.along l (sym (or_none (get_or old v false)) ∙ ap (λ (b : Bool). get_or old v false || b) (sym e));
        any = b.any ∙ sym (or_none (some v at)) ∙ ap (λ (b : Bool). some v at || b) (sym e) ∙ sym onward;
      }

      -- the arc is in the row
      arc_there : {marks : List Bool} {found : Bool} → TightBefore marks found v → row v ≡ read_cell absent_cell (get_or r v (pos 0))
      arc_there b = walked_is (λ j. get_or c j 0) (cell_at r) v (b.along.arc l)

      pub cell_there : {marks : List Bool} {found : Bool} → TightBefore marks found v → get_or r v (pos 0) ≢ absent_cell
      cell_there b e = not-present (row v) (arc_there b ∙ read_absent absent_cell _ e) (b.along.arc l)

      -- what the code asks of the cells
      pub tight_said : {marks : List Bool} {found : Bool} → TightBefore marks found v → tight (read_cell absent_wide a) (read_cell absent_cell (get_or r v (pos 0))) (arrival_in f v) ≡ at v
      tight_said b = ap (λ (d : Delay). tight (read_cell absent_wide a) d (arrival_in f v)) (sym (arc_there b))
