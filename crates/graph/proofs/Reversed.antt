-- The reversed graph: its greatest delays are the graph's, read the other way, and its ranks fall where the graph's rise.
use mathlib.Core.Path.{◌≡◌, refl, ap₂, ◌∙◌}
use Prim.Native.Nat.{ℕ, zero, suc, ◌-◌, ◌≤◌}
use native.Mathlib.Omega.{arith}
use lib.Dec.{T}
use Rattle.graph.specs.Delay.{present, ◌⋓◌, ◌⊕◌}
use Rattle.graph.specs.Graph.{Graph, longest, reversed}
use Rattle.graph.proofs.Delay.{⊕-comm}
use Rattle.graph.proofs.Longest.{Within}
use Rattle.graph.proofs.Rank.{Ranked}

pub longest-reversed : (g : Graph) (k u v : ℕ) → longest (reversed g) k u v ≡ longest g k v u
unfolding longest
longest-reversed g zero u v = refl
longest-reversed g (suc k) u v =
    ap₂ ◌⋓◌ (longest-reversed g k u v) (ap₂ ◌⊕◌ (longest-reversed g k u k) (longest-reversed g k k v) ∙ ⊕-comm (longest g k k u) (longest g k v k))

pub within_reversed : {N : ℕ} {g : Graph} → Within N g → Within N (reversed g)
within_reversed w = record { in_range = λ u v t. let p = w.in_range v u t in (p.1, p.0) }

pub ranked_reversed : {g : Graph} (r : Ranked g) (N : ℕ) → ((u v : ℕ) → T (present (g u v)) → r.rank v ≤ N) → Ranked (reversed g)
ranked_reversed r N most = record { rank = λ v. N - r.rank v; rise = λ u v t. omega (arith, r.rise v u t, most v u t) }
