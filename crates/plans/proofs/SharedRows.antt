-- Rows that the shares leave, and what they are in the table.
use mathlib.Core.Path.{◌≡◌, refl, sym, ap, ap₂, ◌∙◌}
use mathlib.Core.Logic.{◌≢◌}
use mathlib.Core.Bool.{Bool, true, false, not, cond}
use mathlib.Core.List.{List}
use Prim.Native.Nat.{ℕ, ◌*◌, ◌<◌}
use native.Mathlib.Decide.{ℕ_discrete}
use native.Mathlib.Omega.{arith}
use lib.Dec.{eqb}
use lib.IntN.{ℤ, pos}
use lib.ListN.{length, get_or, set, take, drop, length-set}
use lib.Seq.{get_or-set_same, get_or-set_other}
use Rattle.laws.specs.Lists.{tabulate}
use Rattle.laws.proofs.Booleans.{eqb_same, eqb_other}
use Rattle.laws.proofs.Lists.{tabulate_same, is_tabulate}
use Rattle.graph.specs.Delay.{Delay, absent, at, immediate}
use Rattle.graph.specs.Graph.{Graph}
use Rattle.timing.specs.Limits.{absent_cell}
use Rattle.timing.specs.Table.{write_cell, graph_of}
use Rattle.timing.proofs.Table.{written_read}
use Rattle.reduction.specs.ShareInputs.{inputs_shared}
use Rattle.reduction.specs.ShareOutputs.{outputs_shared}
use Rattle.paths.specs.Cells.{cell_at}
use Rattle.sets.specs.declared.Set.{Set}
use Rattle.sets.specs.Sets.{holds}
use Rattle.plans.specs.SharedRow.{inputs_cell, outputs_cell, without_arcs}
use Rattle.plans.specs.Rewritten.{new_cell, Copied}
use Rattle.plans.proofs.CopiedRow.{row_size, lent_at}

-- a row known cell by cell, with one cell stored
pub set_cell : (r : List ℤ) (n k : ℕ) (x : ℤ) (f : ℕ → ℤ) → length r ≡ n → k < n → ((t : ℕ) → t < n → get_or r t (pos 0) ≡ f t) → set r k x ≡ tabulate n (λ t. cond (eqb t k) x (f t))
set_cell r n k x f size l h = is_tabulate (pos 0) (set r k x) n (λ t. cond (eqb t k) x (f t)) (length-set r k x ∙ size) (λ t j. go t j (ℕ_discrete t k))
  where
    go : (t : ℕ) → t < n → Dec (t ≡ k) → get_or (set r k x) t (pos 0) ≡ cond (eqb t k) x (f t)
    go t j (yes q) = rw q (simp (eqb_same k) (get_or-set_same r k x (pos 0) (omega (arith, size))))
    go t j (no q) = get_or-set_other r k t x (pos 0) q ∙ h t j ∙ sym (simp (eqb_other t k q))

pub outputs_stored : (r : List ℤ) (a b : ℕ) (e : ℤ) (u : ℕ) (x : ℤ) → b < length r → x ≡ cond (eqb u a) e absent_cell → set r b x ≡ tabulate (length r) (outputs_cell r a b e u)
outputs_stored r a b e u x l q = ap (set r b) q ∙ set_cell r (length r) b (cond (eqb u a) e absent_cell) (λ t. get_or r t (pos 0)) refl l (λ t _. refl)

-- the row of u as share inputs leaves it, by the four kinds of u
module _ (row via : List ℤ) (a b k : ℕ) (e : ℤ) (u : ℕ) where
  abbrev n : ℕ
  n = length row

  abbrev cell : ℕ → ℤ
  cell = inputs_cell row via a b k e u

  module _ (na : u ≢ a) where
    module _ (nb : u ≢ b) where
      pub row_other : u ≢ k → row ≡ tabulate (length row) (inputs_cell row via a b k e u)
      row_other nk = is_tabulate (pos 0) row n cell refl (λ t _. sym (simp (eqb_other u a na, eqb_other u b nb, eqb_other u k nk)))

-- ---- in the table

write_cond : (b : Bool) (x y : Delay) → cond b (write_cell absent_cell x) (write_cell absent_cell y) ≡ write_cell absent_cell (cond b x y)
write_cond true x y = refl
write_cond false x y = refl

-- x is row u, via the row of a or of any other
module _ {N : ℕ} {t via : List ℤ} {a : ℕ} (c : Copied N t via a) (u : ℕ) (l : u < N) (x : List ℤ) (e : x ≡ take N (drop (N * u) t)) where
  written : (r : List ℤ) (v w : ℕ) → cell_at r v ≡ graph_of N t w v → get_or r v (pos 0) ≡ write_cell absent_cell (graph_of N t w v)
  written r v w q = sym (written_read absent_cell (get_or r v (pos 0))) ∙ ap (write_cell absent_cell) q

  row_reads : (v : ℕ) → v < N → get_or x v (pos 0) ≡ write_cell absent_cell (graph_of N t u v)
  row_reads v h = written x v u (lent_at c u l x e v h)

  pub inputs_row : (b k : ℕ) (d : ℤ) {ys : List ℤ} → ys ≡ tabulate (length x) (inputs_cell x via a b k d u) → ys ≡ tabulate N (new_cell (inputs_shared a b k d (graph_of N t)) u)
  unfolding inputs_shared
  inputs_row b k d q = q ∙ rw (row_size c u l x e) (tabulate_same N (inputs_cell x via a b k d u) (new_cell (inputs_shared a b k d (graph_of N t)) u) (λ v h.
      let g = graph_of N t in
      ap₂ (cond (eqb u a)) (write_cond (eqb v k) immediate absent)
      (ap₂ (cond (eqb u b)) (write_cond (eqb v k) (at d) absent)
      (ap₂ (cond (eqb u k)) (written via v a (c.same v h)) (row_reads v h) ∙ write_cond (eqb u k) (g a v) (g u v))
      ∙ write_cond (eqb u b) (cond (eqb v k) (at d) absent) (cond (eqb u k) (g a v) (g u v)))
      ∙ write_cond (eqb u a) (cond (eqb v k) immediate absent) (cond (eqb u b) (cond (eqb v k) (at d) absent) (cond (eqb u k) (g a v) (g u v)))))

  pub outputs_row : (p b : ℕ) (d : ℤ) {ys : List ℤ} → ys ≡ tabulate (length x) (outputs_cell x p b d u) → ys ≡ tabulate N (new_cell (outputs_shared p b d (graph_of N t)) u)
  unfolding outputs_shared
  outputs_row p b d q = q ∙ rw (row_size c u l x e) (tabulate_same N (outputs_cell x p b d u) (new_cell (outputs_shared p b d (graph_of N t)) u) (λ v h.
      ap₂ (cond (eqb v b)) (write_cond (eqb u p) (at d) absent) (row_reads v h) ∙ write_cond (eqb v b) (cond (eqb u p) (at d) absent) (graph_of N t u v)))

-- the row of u without the arcs of the members of s
module _ (N : ℕ) (s : Set) (g : Graph) (u : ℕ) where
  abbrev thin : Bool → List ℤ
  thin b = tabulate N (λ v. write_cell absent_cell (cond (not b) (g u v) absent))

  pub undriven_row : {ys : List ℤ} → holds s u ≡ true → ys ≡ tabulate N (λ _. absent_cell) → ys ≡ tabulate N (new_cell (without_arcs s g) u)
  unfolding without_arcs
  undriven_row h q = q ∙ ap thin (sym h)

  pub driven_row : {ys : List ℤ} → holds s u ≡ false → ys ≡ tabulate N (new_cell g u) → ys ≡ tabulate N (new_cell (without_arcs s g) u)
  unfolding without_arcs
  driven_row h q = q ∙ ap thin (sym h)
