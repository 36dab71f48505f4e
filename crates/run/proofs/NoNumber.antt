-- No number is free: the tries of a round's share inputs change nothing.
use mathlib.Core.Path.{◌≡◌, refl, ap, ◌∙◌}
use mathlib.Core.List.{List, [], ◌∷◌}
use Prim.Native.Nat.{ℕ}
use lib.IntN.{ℤ, pos}
use Rattle.reduction.specs.Run.{Progress, Try, round, numbers}
use Rattle.reduction.proofs.Rounds.{All}
use Rattle.reduction.proofs.Run.{all_pairs}
use Rattle.paths.specs.declared.board.Board.{Board}
use Rattle.run.specs.Sides.{Side, Inputs, Outputs}
use Rattle.run.specs.Sides.{first_of, count_of, try_share, pair_try, side_tries}
use Rattle.plans.specs.OnBoards.{fresh_on}
use Rattle.run.specs.Running.{progress, Running, Full, Reaches}
use Rattle.run.proofs.ShareVerdicts.{rows_full}
use Rattle.run.proofs.TriedShares.{share_left, share_stays}

-- tries that each change nothing
all_stay : (p : Progress) (qs : List Try) → All (λ q. round (q ∷ []) p ≡ p) qs → round qs p ≡ p
unfolding round
all_stay p [] _ = refl
all_stay p (q ∷ qs) h = ap (round qs) h.0 ∙ all_stay p qs h.1

-- one of them
pub full_passed : (board : Board) (t : List ℤ) (side : Side) (a b c : ℕ) → Running board (progress t c) → Full side board t
    → Reaches board.vertices (pair_try board side a b) (progress t c) (progress t c)
full_passed board t Inputs a b c run full = share_stays board t Inputs a b c run t (share_left board t Inputs a b (fresh_on board t) (rows_full board t a b (pos 0) (fresh_on board t) full.1))
full_passed board t Outputs a b c run full = absurd (let e : Outputs ≡ Inputs = full.0 in cc)

-- all of them
pub full_stays : (board : Board) (t : List ℤ) (side : Side) (c : ℕ) → Running board (progress t c) → Full side board t → Reaches board.vertices (side_tries board side) (progress t c) (progress t c)
full_stays board t side c run full s room =
    all_stay (progress t c) (side_tries board side s)
    (all_pairs (λ q. round (q ∷ []) (progress t c) ≡ progress t c) (try_share board.inputs board.outputs board.vertices side s) (numbers (first_of side board.inputs) (count_of side board.inputs board.outputs)) (numbers (first_of side board.inputs) (count_of side board.inputs board.outputs))
    (λ a b. full_passed board t side a b c run full s room))
