-- The try of a share: from its verdict, and as the one try of a round.
use mathlib.Core.Path.{◌≡◌, refl, sym, ap, ◌∙◌, subst}
use mathlib.Core.Bool.{Bool, true, false, not}
use mathlib.Core.List.{List}
use Prim.Native.Nat.{ℕ, ◌+◌}
use native.Mathlib.Omega.{arith}
use lib.Dec.{T}
use lib.IntN.{ℤ}
use Rattle.laws.proofs.Booleans.{true_is}
use Rattle.graph.specs.Graph.{Graph}
use Rattle.timing.specs.Refusal.{Verdict, refused, accepted, is_accepted, ◌then◌}
use Rattle.timing.specs.Table.{graph_of, with_graph}
use Rattle.timing.proofs.Verdict.{then_accepted, same_accepted}
use Rattle.reduction.specs.ShareInputs.{inputs_reduced}
use Rattle.reduction.specs.ShareOutputs.{outputs_shared}
use Rattle.reduction.specs.Steps.{plan}
use Rattle.reduction.specs.Run.{round}
use Rattle.reduction.proofs.Steps.{plan_better}
use Rattle.reduction.proofs.Kept.{put_back}
use Rattle.paths.specs.declared.board.Board.{Board}
use Rattle.plans.specs.OnBoards.{table_by, fresh_on}
use Rattle.paths.specs.Checked.{Checked}
use Rattle.run.specs.Sides.{Side, Inputs, Outputs}
use Rattle.run.specs.Sides.{share_step, is_rich, pair_try}
use Rattle.run.specs.Running.{progress, Running, Tries, TriesShare, Reaches}
use Rattle.run.proofs.Moving.{gained, moves, try_share_lem}
use Rattle.run.proofs.ShareVerdicts.{share_verdict, share_poor}

-- ---- from its verdict

abbrev pub shared : ℕ → ℕ → ℕ → Side → ℕ → ℕ → ℕ → Graph → ℤ → Graph
shared m n N Inputs a b k g e = inputs_reduced m n N a b k e g
shared m n N Outputs a b k g e = outputs_shared a b e g

share_plan : (m n N : ℕ) (side : Side) (a b k : ℕ) (g : Graph) → plan m n N (share_step side a b k) g ≡ (share_verdict side m n N a b k g then λ e. accepted (shared m n N side a b k g e))
unfolding plan
share_plan m n N Inputs a b k g = refl
share_plan m n N Outputs a b k g = refl

module _ (board : Board) (t : List ℤ) (side : Side) (a b k : ℕ) where
  abbrev m : ℕ
  m = board.inputs

  abbrev n : ℕ
  n = board.outputs

  abbrev N : ℕ
  N = board.vertices

  abbrev g : Graph
  g = graph_of N t

  abbrev verdict : Verdict ℤ
  verdict = share_verdict side board.inputs board.outputs board.vertices a b k (graph_of board.vertices t)

  -- the try, from its verdict
  abbrev put : Verdict ℤ → Verdict (List ℤ)
  put v = v then (λ e. accepted (shared m n N side a b k g e)) then λ g'. accepted (with_graph N g' t)

  abbrev pub Trying : List ℤ → Bool → Type 0
  Trying after r = Tries (table_by board (share_step side a b k) t) t after r

  known : (v : Verdict ℤ) → verdict ≡ v → (after : List ℤ) (r : Bool) → Tries (put v) t after r → Trying after r
  known v e after r h = subst (λ (y : Verdict (List ℤ)). Tries y t after r) (sym (ap (λ (y : Verdict Graph). y then λ g'. accepted (with_graph N g' t)) (share_plan m n N side a b k g) ∙ ap put e)) h

  -- the code hands the difference on as y
  pub share_taken : {e y : ℤ} → verdict ≡ accepted e → y ≡ e → (after : List ℤ) → after ≡ with_graph board.vertices (shared board.inputs board.outputs board.vertices side a b k (graph_of board.vertices t) y) t → Trying after true
  share_taken {e} {y} q same after w = known (accepted y) (q ∙ ap accepted (sym same)) after true (record { taken = λ _. ap accepted (sym w); refused = λ z. absurd (true_is (sym z)) })

  pub share_left : T (not (is_accepted verdict)) → Trying t false
  share_left low = go verdict refl low
    where
      go : (v : Verdict ℤ) → verdict ≡ v → T (not (is_accepted v)) → Trying t false
      go (refused x) e low = known (refused x) e t false (record { taken = λ z. absurd (true_is z); refused = λ _. (tt, refl) })
      go (accepted x) e low = absurd low

  -- the new table's graph
  pub share_graph : Checked board t → (after : List ℤ) → Trying after true → (e : ℤ) × (graph_of board.vertices after ≡ shared board.inputs board.outputs board.vertices side a b k (graph_of board.vertices t) e)
  share_graph ok after h =
      let put = then_accepted (plan m n N (share_step side a b k) g) _ after (h.taken refl) in
      let made = then_accepted verdict _ put.0 (sym (share_plan m n N side a b k g) ∙ put.1) in
      (made.0, ap (graph_of N) (sym (same_accepted put.2)) ∙ put_back m n N t put.0 (plan_better ok.sound (share_step side a b k) put.0 put.1) ∙ sym (same_accepted made.2))

-- ---- as the one try of a round, by the smallest free number

module _ (board : Board) (t : List ℤ) (side : Side) (a b c : ℕ) (run : Running board (progress t c)) where
  abbrev pub Tried : List ℤ → ℕ → Type 0
  Tried after d = Reaches board.vertices (pair_try board side a b) (progress t c) (progress after d)

  pub share_reaches : (after : List ℤ) (r : Bool) → TriesShare side board a b t after r → (d : ℕ) → d ≡ c + gained r → Tried after d
  unfolding round
  share_reaches after r h d e s room =
      try_share_lem board.inputs board.outputs board.vertices s side a b (progress t c)
      ∙ moves run.checked (share_step side a b (fresh_on board t)) after r h s c room
      ∙ sym (ap (progress after) e)

  -- a refused one
  pub share_stays : (after : List ℤ) → TriesShare side board a b t after false → Tried after c
  share_stays after h = share_reaches after false h c (omega arith)

  -- b has too few arcs
  pub share_passed : is_rich side board.vertices (graph_of board.vertices t) b ≡ false → Tried t c
  share_passed low = share_stays t (share_left board t side a b (fresh_on board t) (share_poor board.inputs board.outputs board.vertices a b (fresh_on board t) (graph_of board.vertices t) side low))
