-- Which vertices have arcs enough, after an accepted share of a and b: these two are counted again, the others keep their arcs.
use mathlib.Core.Path.{◌≡◌, refl, sym, ap, ◌∙◌}
use mathlib.Core.Logic.{◌≢◌}
use mathlib.Core.Bool.{Bool, true, false}
use mathlib.Core.List.{List}
use Prim.Native.Nat.{ℕ, ◌<◌}
use native.Mathlib.Decide.{ℕ_discrete}
use native.Mathlib.Omega.{arith}
use lib.Dec.{leb, not_T}
use lib.IntN.{ℤ}
use lib.ListN.{length, get_or, set, length-set}
use lib.Seq.{get_or-set_same, get_or-set_other}
use Rattle.laws.proofs.Booleans.{eqb_other}
use Rattle.laws.proofs.Sums.{sum_eq}
use Rattle.graph.specs.Graph.{Graph}
use Rattle.graph.specs.Count.{bit, fan_in, fan_out}
use Rattle.timing.specs.Table.{graph_of}
use Rattle.reduction.specs.Outcome.{is_inner, fresh_number}
use Rattle.reduction.specs.ShareInputs.{inputs_shared, inputs_reduced}
use Rattle.reduction.proofs.Better.{inner_of}
use Rattle.reduction.proofs.ShareInputs.{reduced_outside}
use Rattle.reduction.specs.ShareOutputs.{outputs_shared}
use Rattle.paths.specs.declared.board.Board.{Board}
use Rattle.paths.specs.Checked.{Checked}
use Rattle.run.specs.Sides.{Side, Inputs, Outputs}
use Rattle.run.specs.Sides.{OnSide, is_rich}
use Rattle.run.specs.Pairs.{Pair}
use Rattle.plans.specs.OnBoards.{fresh_on}
use Rattle.run.specs.Running.{Counted, TriesShare}
use Rattle.run.proofs.Lines.{side_fits}
use Rattle.run.proofs.TriedShares.{shared, share_graph}

module _ (N : ℕ) (g : Graph) (a b : ℕ) (e : ℤ) (v : ℕ) (v-a : v ≢ a) (v-b : v ≢ b) where
  -- of inputs share inputs changes the rows a and b alone
  row_stays : (m n k : ℕ) → v < m → v ≢ k → fan_out N (inputs_reduced m n N a b k e g) v ≡ fan_out N g v
  unfolding fan_out inputs_shared
  row_stays m n k input v-k = sum_eq N _ _ (λ t _. ap bit (reduced_outside m n N a b k e g v t (not_T (is_inner m n N v) (λ h. omega (arith, (inner_of m n N v h).0)))
      ∙ rw (eqb_other v a v-a, eqb_other v b v-b, eqb_other v k v-k) refl))

  -- share outputs the column b alone
  column-stays : fan_in N (outputs_shared a b e g) v ≡ fan_in N g v
  unfolding fan_in outputs_shared
  column-stays = sum_eq N _ _ (λ u _. rw (eqb_other v b v-b) refl)

module _ (board : Board) (t : List ℤ) (a b : ℕ) where
  others_stay : (side : Side) (e : ℤ) (v : ℕ) → OnSide board side v → v ≢ a → v ≢ b
      → is_rich side board.vertices (shared board.inputs board.outputs board.vertices side a b (fresh_on board t) (graph_of board.vertices t) e) v ≡ is_rich side board.vertices (graph_of board.vertices t) v
  unfolding fresh_number
  others_stay Inputs e v on v-a v-b = ap (leb 2) (row_stays board.vertices (graph_of board.vertices t) a b e v v-a v-b board.inputs board.outputs (fresh_on board t) (omega (arith, on.below)) (λ q. omega (arith, q, on.below)))
  others_stay Outputs e v on v-a v-b = ap (leb 2) (column-stays board.vertices (graph_of board.vertices t) a b e v v-a v-b)

  -- x and y are the new counts of a and b
  pub counted_again : (side : Side) → Checked board t → Pair side board a b → (rich : List Bool) → Counted side board t rich
      → (after : List ℤ) → TriesShare side board a b t after true → (x y : Bool) → x ≡ is_rich side board.vertices (graph_of board.vertices after) a → y ≡ is_rich side board.vertices (graph_of board.vertices after) b
      → Counted side board after (set (set rich a x) b y)
  counted_again side ok pair rich h after tried x y x-is y-is = record {
    long = length-set (set rich a x) b y ∙ length-set rich a x ∙ h.long;
    each = λ v on. go v on (ℕ_discrete v b) (ℕ_discrete v a);
  }
    where
      now : ℕ → Bool
      now v = is_rich side board.vertices (graph_of board.vertices after) v

      inside : (v : ℕ) → OnSide board side v → v < length rich
      inside v on = omega (arith, on.below, side_fits side board, h.long)

      go : (v : ℕ) → OnSide board side v → Dec (v ≡ b) → Dec (v ≡ a) → get_or (set (set rich a x) b y) v false ≡ now v
      go v on (yes q) _ = rw q (get_or-set_same (set rich a x) b y false (omega (arith, inside b pair.other, length-set rich a x)) ∙ y-is)
      go v on (no v-b) (yes q) = get_or-set_other (set rich a x) b v y false v-b ∙ rw q (get_or-set_same rich a x false (inside a pair.one) ∙ x-is)
      go v on (no v-b) (no v-a) =
          let made = share_graph board t side a b (fresh_on board t) ok after tried in
          get_or-set_other (set rich a x) b v y false v-b ∙ get_or-set_other rich a v x false v-a ∙ h.each v on
          ∙ sym (others_stay side made.0 v on v-a v-b) ∙ ap (λ (f : Graph). is_rich side board.vertices f v) (sym made.1)
