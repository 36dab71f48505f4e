-- The text of `thin`, from what its reading answers and leaves.
use Rattle.files.specs.declared.answer.Fault.{Fault}
use Rattle.std.specs.Prelude.{Result, Err}
use Rattle.paths.specs.declared.board.Board.{Board}
use mathlib.Core.Path.{◌≡◌, sym, ap, ap₂, ◌∙◌, subst}
use mathlib.Core.List.{List, ◌++◌, append_assoc, append-nil}
use Prim.Native.Nat.{ℕ, zero, suc, ◌+◌, ◌*◌, ◌≤◌}
use native.Mathlib.Omega.{arith}
use lib.IntN.{ℤ}
use lib.ListN.{length, drop_of_length-le}
use Rattle.laws.specs.Lists.{tabulate, rows}
use Rattle.timing.specs.Limits.{max_vertices, absent_cell}
use Rattle.timing.specs.Table.{with_graph}
use Rattle.timing.specs.Checks.{BoardSizes}
use Rattle.format.specs.Library.{built_in}
use Rattle.format.specs.Reading.{Reading, no_arcs, read_call, table_read}
use Rattle.format.specs.Text.{text_of, most_cells, most_scratch, blank, thin_text}
use Rattle.files.specs.Read.{read_meaning}
use Rattle.text.proofs.Offsets.{StopsBy, read_stops}

-- ---- the blank table

module _ {A : Type 0} (x : A) where
  alike_more : (a b : ℕ) → tabulate a (λ _. x) ++ tabulate b (λ _. x) ≡ tabulate (a + b) (λ _. x)
  unfolding tabulate
  alike_more a zero = let e : a ≡ a + 0 = omega arith in append-nil (tabulate a (λ _. x)) ∙ ap (λ (k : ℕ). tabulate k (λ _. x)) e
  alike_more a (suc b) =
      let e : suc (a + b) ≡ a + suc b = omega arith in
      sym (append_assoc (tabulate a (λ _. x)) (tabulate b (λ _. x)) (tabulate 1 (λ _. x)))
      ∙ ap (λ (l : List A). l ++ tabulate 1 (λ _. x)) (alike_more a b)
      ∙ ap (λ (k : ℕ). tabulate k (λ _. x)) e

  alike_rows : (n r : ℕ) → rows n r (λ _ _. x) ≡ tabulate (n * r) (λ _. x)
  unfolding tabulate rows
  alike_rows n zero = let e : 0 ≡ n * 0 = omega arith in ap (λ (k : ℕ). tabulate k (λ _. x)) e
  alike_rows n (suc r) =
      let e : n * r + n ≡ n * suc r = omega arith in
      ap (λ (l : List A). l ++ tabulate n (λ _. x)) (alike_rows n r) ∙ alike_more (n * r) n ∙ ap (λ (k : ℕ). tabulate k (λ _. x)) e

pub blank-table : (t : List ℤ) → length t ≡ most_cells → with_graph max_vertices no_arcs t ≡ blank
unfolding with_graph
blank-table t e =
    let short : length t ≤ most_cells = omega (arith, e) in
    ap₂ (λ (a b : List ℤ). a ++ b) (alike_rows absent_cell max_vertices max_vertices) (drop_of_length-le t short)
    ∙ append-nil blank

-- ---- the call's answer

module _ (s : List ℕ) {l : List ℤ} {t : List ℤ} {k : ℕ} {r : Result Board Fault} (b : l ≡ built_in) (e : t ≡ blank) (f : k ≡ most_scratch) (answer : read_meaning r ≡ read_call l s t k) where
  pub text_is : {after : List ℤ} → after ≡ table_read l s t k → (x : Result Board Fault) → r ≡ x → text_of after (read_meaning x) ≡ thin_text s
  unfolding thin_text
  text_is left x q =
      ap₂ (λ (a : List ℤ) (b : Reading BoardSizes). text_of a b)
      (left ∙ (λ i. table_read (b i) s (e i) (f i)))
      (ap read_meaning (sym q) ∙ answer ∙ (λ i. read_call (b i) s (e i) (f i)))

  pub stops_inside : (f : Fault) → r ≡ Err f → f.at ≤ length s
  stops_inside f q = subst (StopsBy (length s)) (sym answer ∙ ap read_meaning q) (read_stops l s t k)
