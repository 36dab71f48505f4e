-- The sets of the rows after an accepted share of outputs: a is the one source of b.
use mathlib.Core.Path.{◌≡◌, refl, sym, ap, ◌∙◌, subst}
use mathlib.Core.Bool.{Bool, true, false, cond}
use mathlib.Core.List.{List}
use Prim.Native.Nat.{ℕ, ◌<◌}
use native.Mathlib.Omega.{arith}
use lib.Dec.{eqb}
use lib.IntN.{ℤ}
use Rattle.graph.specs.Delay.{Delay, absent, at, present}
use Rattle.graph.specs.Graph.{Graph}
use Rattle.timing.specs.Table.{graph_of}
use Rattle.reduction.specs.ShareOutputs.{outputs_shared}
use Rattle.paths.specs.declared.board.Board.{Board}
use Rattle.paths.specs.Checked.{Checked}
use Rattle.sets.specs.declared.Set.{Set}
use Rattle.sets.specs.Sets.{set_at}
use Rattle.reach.specs.RowSets.{Targets, RowSets, OneSource}
use Rattle.std.specs.Prelude.{Option, Some, None, IfSome}
use Rattle.plans.specs.Sharing.{Indexed}
use Rattle.run.specs.Sides.{Outputs}
use Rattle.run.specs.Outputs.{OneSourceOf}
use Rattle.run.proofs.TriedShares.{Trying, share_graph}

one_source_left : (N : ℕ) (g : Graph) (a b : ℕ) (e : ℤ) (rows rows' : List Set) → RowSets N g rows → OneSource N a b rows rows' → RowSets N (outputs_shared a b e g) rows'
unfolding outputs_shared
one_source_left N g a b e rows rows' h one = record { long = omega (arith, h.long, one.long); row = row }
  where
    with_arc_lem : (x y : Bool) (d : Delay) → cond x y (present d) ≡ present (cond x (cond y (at e) absent) d)
    with_arc_lem true true d = refl
    with_arc_lem true false d = refl
    with_arc_lem false y d = refl

    row : (u : ℕ) → u < N → Targets (outputs_shared a b e g) u (set_at rows' u)
    row u l v = one.rows u v l ∙ ap (cond (eqb v b) (eqb u a)) (h.row u l v) ∙ with_arc_lem (eqb v b) (eqb u a) (g u v)

pub rows_shared : (board : Board) (t : List ℤ) (a b k : ℕ) → Checked board t → (after : List ℤ) → Trying board t Outputs a b k after true
    → (rows rows' : List Set) → RowSets board.vertices (graph_of board.vertices t) rows → OneSource board.vertices a b rows rows' → RowSets board.vertices (graph_of board.vertices after) rows'
rows_shared board t a b k ok after tried rows rows' sets one =
    let made = share_graph board t Outputs a b k ok after tried in
    subst (λ (g : Graph). RowSets board.vertices g rows') (sym made.1) (one_source_left board.vertices (graph_of board.vertices t) a b made.0 rows rows' sets one)

-- where they are there
pub rows_known : (board : Board) (t : List ℤ) (a b k : ℕ) → Checked board t → (after : List ℤ) → Trying board t Outputs a b k after true
    → (before now : Option (List Set)) → Indexed board t before → IfSome now (OneSourceOf board.vertices a b before) → Indexed board after now
rows_known board t a b k ok after tried before None h one = tt
rows_known board t a b k ok after tried before (Some rows) h one = rows_shared board t a b k ok after tried one.0 rows (rw one.1 at h) one.2
