-- What repeated deletion comes to (proofs/DeletionMeaning.antt), and when it takes an arc after a share of inputs (proofs/ShareDeletion.antt).
use Rattle.std.specs.Prelude.{◌≡◌, Bool, not, ◌&&◌, ◌||◌, ℕ, ltb, eqb, ℤ}
use Rattle.laws.specs.Bounded.{every, some}
use Rattle.graph.specs.Delay.{present}
use Rattle.graph.specs.Graph.{Graph, longest}
use Rattle.graph.specs.Count.{fan_out}
use Rattle.timing.specs.Refusal.{Verdict}
use Rattle.reduction.specs.Outcome.{is_inner}
use Rattle.reduction.specs.Prune.{thinned}
use Rattle.reduction.specs.Deletion.{deletion_round, deleted, deletes}
use Rattle.reduction.specs.ShareInputs.{inputs_shared, enough_out, two_out, where_it_pays}

-- u is not inner, or some path leads to u from a vertex that is not inner
abbrev pub driven : ℕ → ℕ → ℕ → Graph → ℕ → Bool
driven m n N g u = not (is_inner m n N u) || some N (λ v. not (is_inner m n N v) && present (longest g N v u))

pub record DeletionMeaning (m n N : ℕ) (g : Graph) : Type 0 where
  -- exactly the arcs of those vertices stay
  pub stays : (u t : ℕ) → deleted m n N g u t ≡ thinned (λ u _. driven m n N g u) g u t
  -- and one round more takes none
  pub settled : (u t : ℕ) → deletion_round m n N (deleted m n N g) u t ≡ deleted m n N g u t

-- u is an inner vertex with an arc out, and has no arc in, or b's as its only one
abbrev pub hangs_on : ℕ → ℕ → ℕ → Graph → ℕ → ℕ → Bool
hangs_on m n N g b u = is_inner m n N u && ltb 0 (fan_out N g u) && every N (λ x. eqb x b || not (present (g x u)))

-- there is such a vertex
unfoldable pub leaves_undriven : ℕ → ℕ → ℕ → Graph → ℕ → Bool
leaves_undriven m n N g b = some N (hangs_on m n N g b)

-- exactly then the deletion after a share of inputs a, b takes an arc, whatever a, the number k and the difference e
abbrev pub ShareDeletion : ℕ → ℕ → ℕ → ℕ → ℕ → ℕ → ℤ → Graph → Type 0
ShareDeletion m n N a b k e g = deletes m n N (inputs_shared a b k e g) ≡ leaves_undriven m n N g b

-- so what is asked of e is found without the share
abbrev pub saved_before : ℕ → ℕ → ℕ → Graph → ℕ → ℤ → Verdict ℤ
saved_before m n N g b e = where_it_pays (enough_out N g b || (two_out N g b && leaves_undriven m n N g b)) e
