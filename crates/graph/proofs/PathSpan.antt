-- How large the greatest delays get, where each arc's delay is from -b to b: a path without a cycle has at most N arcs.
use mathlib.Core.Path.{◌≡◌, subst}
use mathlib.Core.Logic.{◌⊎◌, inl, inr}
use mathlib.Core.List.{List, [], ◌∷◌}
use Prim.Native.Nat.{ℕ, zero, suc, ◌+◌, ◌*◌, ◌≤◌}
use native.Mathlib.Omega.{arith}
use lib.Dec.{T}
use Rattle.laws.proofs.Booleans.{split}
use Rattle.graph.specs.Delay.{absent, present, ◌⊕◌}
use Rattle.graph.specs.Graph.{Graph, path_delay, Acyclic, longest}
use Rattle.graph.proofs.Presence.{absent_or}
use Rattle.graph.proofs.Longest.{Within, longest-reached}
use Rattle.graph.proofs.Rank.{Ranked, rise_path, acyclic_ranked}
use Rattle.graph.proofs.Span.{InSpan, span_⊕, span_le}

module _ {g : Graph} (r : Ranked g) (b : ℕ) (arcs : (u v : ℕ) → InSpan b (g u v)) where
  -- ranks rise by at most k
  path_span : (k u : ℕ) (xs : List ℕ) (v : ℕ) → r.rank v ≤ r.rank u + k → InSpan (k * b) (path_delay g u xs v)
  path_span zero u xs v h = split (absent_or (path_delay g u xs v)) (λ e. rw e tt) (λ t. absurd (omega (arith, rise_path r u xs v t)))
  path_span (suc k) u [] v h = span_le b (suc k * b) (g u v) (omega arith) (arcs u v)
  path_span (suc k) u (x ∷ xs) v h = go (path_span k x xs v) (absent_or (g u x))
    where
      go : (r.rank v ≤ r.rank x + k → InSpan (k * b) (path_delay g x xs v)) → (g u x ≡ absent) ⊎ T (present (g u x)) → InSpan (suc k * b) (g u x ⊕ path_delay g x xs v)
      go ih (inl e) = rw e tt
      go ih (inr t) = span_le (b + k * b) (suc k * b) (g u x ⊕ path_delay g x xs v) (omega arith) (span_⊕ b (k * b) (g u x) (path_delay g x xs v) (arcs u x) (ih (omega (arith, r.rise u x t))))

pub longest_span : (N : ℕ) {g : Graph} → Within N g → Acyclic g → (b : ℕ) → ((u v : ℕ) → InSpan b (g u v)) → (u v : ℕ) → InSpan (N * b) (longest g N u v)
longest_span N {g} w a b arcs u v =
    let r = acyclic_ranked N w a in
    let p = longest-reached g N u v in
    subst (InSpan (N * b)) p.1 (path_span r.0 b arcs N u p.0 v (omega (arith, r.1 v)))
