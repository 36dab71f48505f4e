-- The targets of a row.
use Rattle.std.proofs.Common.{◌≡◌, refl, sym, ap, ap₂, ◌∙◌, true, false, ◌&&◌, ◌||◌, List, ℕ, ◌+◌, ◌*◌, ◌≤◌, ◌<◌, ℤ, eqb, ltb, Bool, length, arith}
use native.Mathlib.Decide.{dec_lt}
use borrow.Author.Tests.{lt-ltb, le-ltb}
use Rattle.laws.proofs.Booleans.{is_false}
use Rattle.laws.proofs.Somewhere.{or_none}
use Rattle.laws.proofs.Truth.{no_second, and_end}
use Rattle.graph.specs.Delay.{present}
use Rattle.graph.specs.Graph.{reversed}
use Rattle.timing.specs.Table.{graph_of}
use Rattle.timing.proofs.Table.{graph_of_within}
use Rattle.paths.specs.Cells.{cell_at, row_at}
use Rattle.paths.proofs.Rows.{length-row_at, row_at_cell}
use Rattle.sets.specs.declared.Set.{Set}
use Rattle.sets.specs.Sets.{holds, set_at}
use Rattle.reach.specs.RowSets.{Targets, Added}
use Rattle.reach.proofs.Gathered.{Gathered, gathered_yes, gathered_no, or_turned}

module _ (N : ℕ) (t : List ℤ) (u : ℕ) (room : N * N ≤ length t) (l : u < N) (row : List ℤ) (is_row : row ≡ row_at N u t) where
  row_long : length row ≡ N
  row_long = ap length is_row ∙ length-row_at N t u room l

  row_cell_is : (v : ℕ) → v < N → cell_at row v ≡ graph_of N t u v
  row_cell_is v k = ap (λ (x : List ℤ). cell_at x v) is_row ∙ row_at_cell N t u v l k

  -- s has the arcs of the row of u
  pub row_targets : (s : Set) → ((v : ℕ) → holds s v ≡ (ltb v (length row) && present (cell_at row v))) → Targets (graph_of N t) u s
  row_targets s h v = h v ∙ ap (λ (n : ℕ). ltb v n && present (cell_at row v)) row_long ∙ go (dec_lt v N)
    where
      go : Dec (v < N) → (ltb v N && present (cell_at row v)) ≡ present (graph_of N t u v)
      go (yes k) = ap (λ (b : Bool). b && present (cell_at row v)) (lt-ltb v N k) ∙ ap present (row_cell_is v k)
      go (no k) =
          ap (λ (b : Bool). b && present (cell_at row v)) (le-ltb v N (omega arith)) ∙ sym (is_false (present (graph_of N t u v)) (λ p. absurd (k ((graph_of_within N t).in_range u v p).1)))

  -- and u is among the sources of each of them
  pub sources_turn : (before after : List Set) → Added u row (length row) before after → (v : ℕ) → v < N → Gathered (λ x. present (graph_of N t x v)) u (set_at before v) → Gathered (λ x. present (graph_of N t x v)) (u + 1) (set_at after v)
  sources_turn before after added v k h = go (present (graph_of N t u v)) refl
    where
      now : (x : ℕ) (b : Bool) → present (graph_of N t u v) ≡ b → holds (set_at after v) x ≡ (holds (set_at before v) x || (eqb x u && b))
      now x b e = added.sets v x ∙ ap (λ (c : Bool). holds (set_at before v) x || c)
          (ap₂ (λ (p q : Bool). eqb x u && p && q) (ap (ltb v) row_long ∙ lt-ltb v N k) (ap present (row_cell_is v k) ∙ e) ∙ ap (λ (c : Bool). c && b) (and_end (eqb x u)))

      go : (b : Bool) → present (graph_of N t u v) ≡ b → Gathered (λ x. present (graph_of N t x v)) (u + 1) (set_at after v)
      go true e = gathered_yes (λ x. present (graph_of N t x v)) u (set_at before v) h e (set_at after v) (λ x. now x true e ∙ ap (λ (c : Bool). holds (set_at before v) x || c) (and_end (eqb x u)) ∙ or_turned (holds (set_at before v) x) (eqb x u))
      go false e = λ x. now x false e ∙ ap (λ (c : Bool). holds (set_at before v) x || c) (no_second (eqb x u) false refl) ∙ or_none (holds (set_at before v) x) ∙ gathered_no (λ x. present (graph_of N t x v)) u (set_at before v) h e x

-- all rows have been looked at
pub sources_all : (N : ℕ) (t : List ℤ) (v : ℕ) (s : Set) → Gathered (λ x. present (graph_of N t x v)) N s → Targets (reversed (graph_of N t)) v s
sources_all N t v s h x = h x ∙ go (dec_lt x N)
  where
    go : Dec (x < N) → (ltb x N && present (graph_of N t x v)) ≡ present (graph_of N t x v)
    go (yes k) = ap (λ (b : Bool). b && present (graph_of N t x v)) (lt-ltb x N k)
    go (no k) = ap (λ (b : Bool). b && present (graph_of N t x v)) (le-ltb x N (omega arith)) ∙ sym (is_false (present (graph_of N t x v)) (λ p. absurd (k ((graph_of_within N t).in_range x v p).0)))
