-- A row's cells after the step are the starred graph's.
use mathlib.Core.Path.{◌≡◌, refl, sym, ap, ◌∙◌}
use mathlib.Core.Bool.{Bool, true, false, cond, ◌&&◌}
use mathlib.Core.List.{List}
use Prim.Native.Nat.{ℕ, ◌<◌}
use native.Mathlib.Decide.{ℕ_discrete}
use lib.Dec.{T, eqb}
use lib.IntN.{ℤ, pos}
use lib.ListN.{get_or}
use Rattle.laws.specs.Bounded.{member}
use Rattle.laws.proofs.Booleans.{cases, true_is, eqb_same, eqb_other}
use Rattle.graph.specs.Delay.{Delay, absent, ticks, ◌⊖◌, least}
use Rattle.graph.specs.Graph.{Graph}
use Rattle.graph.proofs.Longest.{Within}
use Rattle.timing.specs.Limits.{absent_cell}
use Rattle.timing.specs.Table.{write_cell}
use Rattle.timing.proofs.Table.{written_read}
use Rattle.paths.specs.Cells.{cell_at}
use Rattle.reduction.specs.Star.{first_of, to_centre, from_centre, covered, starred}
use Rattle.reduction.proofs.Better.{unused_in, unused_out}
use Rattle.stars.specs.StarCells.{least_gap, meets, cleared_cell, source_cell, centre_cell, cell_after}
use Rattle.stars.specs.StarReady.{StarReady}
use Rattle.laws.proofs.Truth.{yes_first, no_first}
use Rattle.stars.proofs.CentreCells.{no_source, no_target, from_first, to_centre_lem, covered_is}
use Rattle.stars.proofs.RowCells.{centre_target, centre_other, at_centre, beside_centre, of_centre, of_source, of_other}

abbrev write : Delay → ℤ
write d = write_cell absent_cell d

write_cond : (b : Bool) (d : Delay) → write (cond b absent d) ≡ cond b absent_cell (write d)
write_cond true d = refl
write_cond false d = refl

-- the starred graph, by cases
module _ (S Ts : List ℕ) (k : ℕ) (g : Graph) (u v : ℕ) where
  abbrev cell : Bool → Bool → Bool → Delay
  cell a b c = cond a (from_centre S Ts g v) (cond b (to_centre S Ts g u) (cond c absent (g u v)))

  starred_centre : eqb u k ≡ true → starred S Ts k g u v ≡ from_centre S Ts g v
  unfolding starred
  starred_centre a = λ i. cell (a i) (eqb v k) (covered S Ts g u v)

  starred_into : eqb u k ≡ false → eqb v k ≡ true → starred S Ts k g u v ≡ to_centre S Ts g u
  unfolding starred
  starred_into a b = λ i. cell (a i) (b i) (covered S Ts g u v)

  starred_beside : (c : Bool) → eqb u k ≡ false → eqb v k ≡ false → covered S Ts g u v ≡ c → starred S Ts k g u v ≡ cond c absent (g u v)
  unfolding starred
  starred_beside c a b q = λ i. cell (a i) (b i) (q i)

  outside : member u S ≡ false → to_centre S Ts g u ≡ absent
  unfolding to_centre
  outside m = ap (λ (b : Bool). cond b (least Ts (λ t. g u t ⊖ g (first_of S) t)) absent) m

  untargeted : member v Ts ≡ false → from_centre S Ts g v ≡ absent
  unfolding from_centre
  untargeted m = ap (λ (b : Bool). cond b (g (first_of S) v) absent) m

module _ {m n N : ℕ} {S Ts : List ℕ} {k : ℕ} {g : Graph} (r : StarReady m n N S Ts k g) (w : Within N g)
    (first : List ℤ) (head : (v : ℕ) → v < N → cell_at first v ≡ g (first_of S) v)
    (u : ℕ) (row : List ℤ) (cells : (v : ℕ) → v < N → cell_at row v ≡ g u v) where
  written : (v : ℕ) → v < N → get_or row v (pos 0) ≡ write (g u v)
  written v l = sym (written_read absent_cell (get_or row v (pos 0))) ∙ ap write (cells v l)

  centre_row : (v : ℕ) → v < N → u ≡ k → centre_cell row first Ts v ≡ write (from_centre S Ts g v)
  centre_row v l e = cases (member v Ts)
      (λ t. centre_target row first Ts v t ∙ ap write (sym (from_first r.bundle first head v (true_is t))))
      (λ f. centre_other row first Ts v f ∙ written v l ∙ ap (λ (x : ℕ). write (g x v)) e ∙ ap write (unused_out w k r.free v) ∙ ap write (sym (untargeted S Ts k g u v f)))

  other_row : (v : ℕ) → v < N → eqb u k ≡ false → member u S ≡ false → get_or row v (pos 0) ≡ write (starred S Ts k g u v)
  other_row v l a f = go (ℕ_discrete v k)
    where
      go : Dec (v ≡ k) → get_or row v (pos 0) ≡ write (starred S Ts k g u v)
      go (yes e) =
          written v l ∙ ap (λ (x : ℕ). write (g u x)) e ∙ ap write (unused_in w k r.free u ∙ sym (outside S Ts k g u v f) ∙ sym (starred_into S Ts k g u v a (ap (λ (x : ℕ). eqb x k) e ∙ eqb_same k)))
      go (no q) = written v l ∙ ap write (sym (starred_beside S Ts k g u v false a (eqb_other v k q) (no_source S Ts g u v f)))

  module _ (ms : T (member u S)) where
    abbrev e : ℤ
    e = ticks (least_gap row first Ts)

    covered_by : (v : ℕ) → (member v Ts && meets row first e v) ≡ covered S Ts g u v
    covered_by v = cases (member v Ts)
        (λ t. yes_first (member v Ts) (meets row first e v) t ∙ sym (covered_is r.bundle first head u ms row cells v (true_is t)))
        (λ f. no_first (member v Ts) (meets row first e v) f ∙ sym (no_target S Ts g u v f))

    cleared_row : (v : ℕ) → v < N → cleared_cell row first Ts e v ≡ write (cond (covered S Ts g u v) absent (g u v))
    unfolding cleared_cell
    cleared_row v l = (λ i. cond (covered_by v i) absent_cell (written v l i)) ∙ sym (write_cond (covered S Ts g u v) (g u v))

    source_row : (v : ℕ) → v < N → eqb u k ≡ false → source_cell row first Ts k e v ≡ write (starred S Ts k g u v)
    source_row v l a = cases (eqb v k)
        (λ t. at_centre row first Ts k e v t ∙ ap write (sym (starred_into S Ts k g u v a t ∙ to_centre_lem r.bundle first head u ms row cells)))
        (λ f. beside_centre row first Ts k e v f ∙ cleared_row v l ∙ ap write (sym (starred_beside S Ts k g u v (covered S Ts g u v) a f refl)))

  pub row_made : (v : ℕ) → v < N → (b : Bool) → b ≡ member u S → cell_after row first Ts k u b v ≡ write (starred S Ts k g u v)
  row_made v l b q = go (ℕ_discrete u k)
    where
      go : Dec (u ≡ k) → cell_after row first Ts k u b v ≡ write (starred S Ts k g u v)
      go (yes e) =
          let a : eqb u k ≡ true = ap (λ (x : ℕ). eqb x k) e ∙ eqb_same k in
          of_centre row first Ts k u b v a ∙ centre_row v l e ∙ ap write (sym (starred_centre S Ts k g u v a))
      go (no p) = let a = eqb_other u k p in cases (member u S)
          (λ t. of_source row first Ts k u b v a (q ∙ t) ∙ source_row (true_is t) v l a)
          (λ f. of_other row first Ts k u b v a (q ∙ f) ∙ other_row v l a f)
