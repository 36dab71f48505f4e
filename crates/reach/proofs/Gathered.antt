-- Members gathered from 0 on, and a vertex added to the sets of its targets.
use mathlib.Core.Path.{◌≡◌, refl, sym, ap, ap₂, ◌∙◌}
use mathlib.Core.Bool.{Bool, true, false, ◌&&◌, ◌||◌}
use mathlib.Core.List.{List}
use Prim.Native.Nat.{ℕ, ◌+◌, ◌<◌}
use native.Mathlib.Decide.{ℕ_discrete}
use native.Mathlib.Omega.{arith}
use borrow.Author.Tests.{lt-ltb, le-ltb}
use lib.Dec.{eqb, ltb, ltb→lt, lt→ltb}
use lib.IntN.{ℤ}
use lib.ListN.{length, set, length-set}
use lib.Seq.{get_or-set_same, get_or-set_other}
use Rattle.laws.proofs.Booleans.{eqb_same, eqb_other}
use Rattle.laws.proofs.Somewhere.{or_none}
use Rattle.laws.proofs.Truth.{same_truth, both, no_second, and_end}
use Rattle.graph.specs.Delay.{present}
use Rattle.paths.specs.Cells.{cell_at}
use Rattle.sets.specs.declared.Set.{Set}
use Rattle.sets.specs.Sets.{holds, set_at}
use Rattle.reach.specs.RowSets.{Added}

-- one number more
pub below_other : (x s : ℕ) → (x ≡ s → ⊥) → ltb x (s + 1) ≡ ltb x s
below_other x s q = same_truth (ltb x (s + 1)) (ltb x s) (λ t. lt→ltb x s (omega (arith, ltb→lt x (s + 1) t))) (λ t. lt→ltb x (s + 1) (omega (arith, ltb→lt x s t)))

pub below_last : (x s : ℕ) → x ≡ s → ltb x (s + 1) ≡ true
below_last x s e = lt-ltb x (s + 1) (omega arith)

below_self : (s : ℕ) → ltb s s ≡ false
below_self s = le-ltb s s (omega arith)

module _ (p : ℕ → Bool) where
  -- those below s at which p holds
  abbrev pub Gathered : ℕ → Set → Type 0
  Gathered s gathered = (x : ℕ) → holds gathered x ≡ (ltb x s && p x)

  module _ (s : ℕ) (now : Set) (h : Gathered s now) where
    pub gathered_yes : p s ≡ true → (more : Set) → ((x : ℕ) → holds more x ≡ (eqb x s || holds now x)) → Gathered (s + 1) more
    gathered_yes is more plus x = plus x ∙ ap (λ (b : Bool). eqb x s || b) (h x) ∙ go (ℕ_discrete x s)
      where
        go : Dec (x ≡ s) → (eqb x s || (ltb x s && p x)) ≡ (ltb x (s + 1) && p x)
        go (yes e) = ap (λ (b : Bool). b || (ltb x s && p x)) (ap (eqb x) (sym e) ∙ eqb_same x) ∙ sym (both (ltb x (s + 1)) (p x) (below_last x s e) (ap p e ∙ is))
        go (no q) = ap (λ (b : Bool). b || (ltb x s && p x)) (eqb_other x s q) ∙ ap (λ (b : Bool). b && p x) (sym (below_other x s q))

    pub gathered_no : p s ≡ false → Gathered (s + 1) now
    gathered_no is x = h x ∙ go (ℕ_discrete x s)
      where
        go : Dec (x ≡ s) → (ltb x s && p x) ≡ (ltb x (s + 1) && p x)
        go (yes e) = let out = ap p e ∙ is in no_second (ltb x s) (p x) out ∙ sym (no_second (ltb x (s + 1)) (p x) out)
        go (no q) = ap (λ (b : Bool). b && p x) (sym (below_other x s q))

pub or_turned : (a b : Bool) → (a || b) ≡ (b || a)
or_turned true true = refl
or_turned true false = refl
or_turned false true = refl
or_turned false false = refl

module _ (u : ℕ) (row : List ℤ) (before : List Set) where
  pub added_none : Added u row 0 before before
  added_none = record { long = refl; sets = λ v x. sym (ap (λ (b : Bool). holds (set_at before v) x || b) (nothing v x) ∙ or_none (holds (set_at before v) x)) }
    where
      nothing : (v x : ℕ) → (eqb x u && ltb v 0 && present (cell_at row v)) ≡ false
      nothing v x = ap (λ (b : Bool). b && present (cell_at row v)) (no_second (eqb x u) (ltb v 0) (le-ltb v 0 (omega arith)))

  module _ (c : ℕ) (now : List Set) (h : Added u row c before now) where
    abbrev there : ℕ → ℕ → ℕ → Bool
    there k v x = eqb x u && ltb v k && present (cell_at row v)

    -- at another cell there is nothing new
    stays : (v x : ℕ) → (v ≡ c → ⊥) → holds (set_at now v) x ≡ (holds (set_at before v) x || there (c + 1) v x)
    stays v x q = h.sets v x ∙ ap (λ (b : Bool). holds (set_at before v) x || (eqb x u && b && present (cell_at row v))) (sym (below_other v c q))

    -- and at this one there was nothing before
    fresh : (x : ℕ) → holds (set_at now c) x ≡ holds (set_at before c) x
    fresh x = h.sets c x ∙ ap (λ (b : Bool). holds (set_at before c) x || b) (ap (λ (b : Bool). b && present (cell_at row c)) (no_second (eqb x u) (ltb c c) (below_self c))) ∙ or_none (holds (set_at before c) x)

    pub added_yes : c < length now → present (cell_at row c) ≡ true → (more : Set) → ((x : ℕ) → holds more x ≡ (eqb x u || holds (set_at now c) x)) → Added u row (c + 1) before (set now c more)
    added_yes l is more plus = record { long = length-set now c more ∙ h.long; sets = λ v x. go v x (ℕ_discrete v c) }
      where
        go : (v x : ℕ) → Dec (v ≡ c) → holds (set_at (set now c more) v) x ≡ (holds (set_at before v) x || there (c + 1) v x)
        go v x (yes e) = rw e (ap (λ (s : Set). holds s x) (get_or-set_same now c more (record { low = 0; high = 0 }) l) ∙ plus x ∙ ap (λ (b : Bool). eqb x u || b) (fresh x) ∙ or_turned (eqb x u) (holds (set_at before c) x)
            ∙ ap (λ (b : Bool). holds (set_at before c) x || b) (sym (ap₂ (λ (p q : Bool). eqb x u && p && q) (below_last c c refl) is ∙ and_end (eqb x u && true) ∙ and_end (eqb x u))))
        go v x (no q) = ap (λ (s : Set). holds s x) (get_or-set_other now c v more (record { low = 0; high = 0 }) q) ∙ stays v x q

    pub added_no : present (cell_at row c) ≡ false → Added u row (c + 1) before now
    added_no is = record { long = h.long; sets = λ v x. go v x (ℕ_discrete v c) }
      where
        go : (v x : ℕ) → Dec (v ≡ c) → holds (set_at now v) x ≡ (holds (set_at before v) x || there (c + 1) v x)
        go v x (yes e) = rw e (fresh x ∙ sym (ap (λ (b : Bool). holds (set_at before c) x || b) (no_second (eqb x u && ltb c (c + 1)) (present (cell_at row c)) is) ∙ or_none (holds (set_at before c) x)))
        go v x (no q) = stays v x q
