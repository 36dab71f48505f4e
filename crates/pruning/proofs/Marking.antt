-- Marks that accumulate.
use mathlib.Core.Path.{◌≡◌, sym, ap, ◌∙◌}
use mathlib.Core.Bool.{Bool, false, ◌||◌, or_assoc}
use mathlib.Core.List.{List}
use Prim.Native.Nat.{ℕ, zero, suc, ◌+◌, ◌*◌}
use native.Mathlib.Omega.{arith}
use lib.IntN.{ℤ}
use lib.ListN.{get_or}
use Rattle.laws.specs.Bounded.{some}
use Rattle.laws.proofs.Grid.{row_in}
use Rattle.laws.proofs.Somewhere.{some_zero, some_more, or_none}
use Rattle.graph.specs.Graph.{longest}
use Rattle.timing.specs.Table.{graph_of}
use Rattle.paths.specs.declared.board.Board.{Board}
use Rattle.pruning.specs.TightArcs.{decides_from}
use Rattle.pruning.specs.PruneMarks.{AlsoMarked, stays, DecidingMarked, StayMarked, Unmarked}
use Rattle.pruning.proofs.TightPaths.{critical_is}

some_add : (f : ℕ → Bool) (c k : ℕ) → some (c + k) f ≡ (some c f || some k (λ l. f (c + l)))
unfolding some
some_add f c zero = ap (λ (x : ℕ). some x f) (let e : c + 0 ≡ c = omega arith in e) ∙ sym (or_none (some c f))
some_add f c (suc k) =
    ap (λ (x : ℕ). some x f) (let e : c + suc k ≡ suc (c + k) = omega arith in e) ∙ ap (λ (x : Bool). x || f (c + k)) (some_add f c k) ∙ or_assoc (some c f) (some k (λ l. f (c + l))) (f (c + k))

-- one set of arcs after another
pub also_on : (N : ℕ) (f g : ℕ → ℕ → Bool) (marks₀ marks after : List Bool) → AlsoMarked N f marks₀ marks → AlsoMarked N g marks after → AlsoMarked N (λ u v. f u v || g u v) marks₀ after
also_on N f g marks₀ marks after a b u v p q = b u v p q ∙ ap (λ (x : Bool). x || g u v) (a u v p q) ∙ or_assoc (get_or marks₀ (N * u + v) false) (f u v) (g u v)

pub also_same : (N : ℕ) (f g : ℕ → ℕ → Bool) (marks₀ marks : List Bool) → ((u v : ℕ) → f u v ≡ g u v) → AlsoMarked N f marks₀ marks → AlsoMarked N g marks₀ marks
also_same N f g marks₀ marks e a u v p q = a u v p q ∙ ap (λ (x : Bool). get_or marks₀ (N * u + v) false || x) (e u v)

-- the arcs of which F holds at one of the first c numbers
abbrev pub up_to : (ℕ → ℕ → ℕ → Bool) → ℕ → ℕ → ℕ → Bool
up_to F c u v = some c (λ i. F i u v)

module _ (N : ℕ) (F : ℕ → ℕ → ℕ → Bool) where
  pub none_yet : (marks : List Bool) → AlsoMarked N (up_to F 0) marks marks
  none_yet marks u v p q = sym (ap (λ (x : Bool). get_or marks (N * u + v) false || x) (some_zero _) ∙ or_none _)

  pub one_more : (marks₀ marks after : List Bool) (c : ℕ) → AlsoMarked N (up_to F c) marks₀ marks → AlsoMarked N (F c) marks after → AlsoMarked N (up_to F (c + 1)) marks₀ after
  one_more marks₀ marks after c a d = also_same N _ (up_to F (c + 1)) marks₀ after (λ u v. sym (some_more _ c)) (also_on N (up_to F c) (F c) marks₀ marks after a d)

  -- k more
  pub more : (marks₀ marks after : List Bool) (c k : ℕ) → AlsoMarked N (up_to F c) marks₀ marks → AlsoMarked N (up_to (λ l. F (c + l)) k) marks after → AlsoMarked N (up_to F (c + k)) marks₀ after
  more marks₀ marks after c k a d = also_same N _ (up_to F (c + k)) marks₀ after (λ u v. sym (some_add (λ i. F i u v) c k)) (also_on N (up_to F c) (up_to (λ l. F (c + l)) k) marks₀ marks after a d)

module _ (b : Board) (t : List ℤ) where
  -- the arc u→v decides a delay from i; from one of the first c inputs
  abbrev pub decider : ℕ → ℕ → ℕ → Bool
  decider = decides_from b.inputs b.outputs (longest (graph_of b.vertices t) b.vertices) (graph_of b.vertices t)

  abbrev pub decides_below : ℕ → ℕ → ℕ → Bool
  decides_below = up_to decider

  pub all_inputs : (marks₀ marks : List Bool) (c : ℕ) → c ≡ b.inputs → AlsoMarked b.vertices (decides_below c) marks₀ marks → DecidingMarked b t marks₀ marks
  all_inputs marks₀ marks c e = also_same b.vertices (decides_below c) (stays b t) marks₀ marks (λ u v. ap (λ (k : ℕ). decides_below k u v) e ∙ critical_is b.inputs b.outputs b.vertices (graph_of b.vertices t) u v)

  -- where all marks were off, they are those of the arcs that stay
  pub only : (marks₀ marks : List Bool) → Unmarked b marks₀ → DecidingMarked b t marks₀ marks → StayMarked b t marks
  only marks₀ marks none a u v p q = a u v p q ∙ ap (λ (x : Bool). x || stays b t u v) (none.off (b.vertices * u + v) (omega (arith, row_in b.vertices u p)))
