-- A share of outputs a, b, where a stands before b, keeps a topological order.
use mathlib.Core.Path.{sym, subst}
use mathlib.Core.Bool.{true}
use Rattle.std.specs.Prelude.{Option, Some, None, IfSome}
use mathlib.Core.List.{List}
use Prim.Native.Nat.{ℕ, ◌<◌}
use lib.Dec.{T, eqb, eqb→eq}
use lib.IntN.{ℤ}
use Rattle.laws.proofs.Booleans.{cond_elim}
use Rattle.graph.specs.Delay.{Delay, absent, at, present}
use Rattle.graph.specs.Graph.{Graph}
use Rattle.reduction.specs.ShareOutputs.{outputs_shared}
use Rattle.paths.specs.declared.board.Board.{Board}
use Rattle.paths.specs.Order.{TopologicalOrder, rank_of, stands_before}
use Rattle.paths.specs.Checked.{Passable, Checked}
use Rattle.paths.proofs.Before.{before_rank}
use Rattle.run.specs.Sides.{Outputs}
use Rattle.run.specs.Pairs.{Pair}
use Rattle.run.specs.Outputs.{StillSorted}
use Rattle.run.proofs.TriedShares.{Trying, share_graph}

order_kept : {N : ℕ} {g : Graph} {o : List ℕ} (s : TopologicalOrder N g o) (a b : ℕ) (e : ℤ) → rank_of N o a < rank_of N o b → TopologicalOrder N (outputs_shared a b e g) o
unfolding outputs_shared
order_kept {N} {g} {o} s a b e before = record { place = s.place; vertex = s.vertex; rise = λ u v. rise u v }
  where
    rise : (u v : ℕ) → T (present (outputs_shared a b e g u v)) → rank_of N o u < rank_of N o v
    rise u v = cond_elim (λ (d : Delay). T (present d) → rank_of N o u < rank_of N o v) (eqb v b) _ (g u v)
        (λ to. cond_elim (λ (d : Delay). T (present d) → rank_of N o u < rank_of N o v) (eqb u a) (at e) absent (λ from _. rw (eqb→eq u a from) (rw (eqb→eq v b to) before)) (λ _ t. absurd t))
        (λ _. s.rise u v)

-- after an accepted share
pub still_passable : (board : Board) (t : List ℤ) (o : List ℕ) (a b k : ℕ) → Passable board t o → Pair Outputs board a b → (after : List ℤ) → Trying board t Outputs a b k after true → Checked board after
    → T (stands_before board.vertices o a b) → Passable board after o
still_passable board t o a b k p pair after h ok' before =
    let made = share_graph board t Outputs a b k p.checked after h in
    let rises = before_rank p.order a b before in
    record { checked = ok'; order = subst (λ (g : Graph). TopologicalOrder board.vertices g o) (sym made.1) (order_kept p.order a b made.0 rises) }

-- where the order is known
pub order_known : (board : Board) (t : List ℤ) (a b k : ℕ) (before after : Option (List ℕ)) → IfSome before (Passable board t) → Pair Outputs board a b → (table : List ℤ) → Trying board t Outputs a b k table true → Checked board table
    → IfSome after (StillSorted board.vertices a b before) → IfSome after (Passable board table)
order_known board t a b k before None p pair table h ok' still = tt
order_known board t a b k before (Some o) p pair table h ok' still = still_passable board t o a b k (rw still.0 at p) pair table h ok' still.1
