-- Members put into a list one after another, the least first.
use mathlib.Core.Path.{◌≡◌, refl, sym, ap, ◌∙◌}
use mathlib.Core.Bool.{Bool, true, false, not, ◌&&◌, ◌||◌}
use mathlib.Core.List.{List, [], ◌∷◌, ◌++◌, append_assoc, append-nil}
use Prim.Native.Nat.{ℕ, ◌+◌, ◌<◌}
use native.Mathlib.Numerals.{add-one}
use native.Mathlib.Omega.{arith}
use lib.Dec.{T, eqb}
use lib.ListN.{length, set, length-set, take}
use lib.Seq.{take-suc-set}
use Rattle.laws.specs.Bounded.{those}
use Rattle.laws.proofs.Booleans.{T_true}
use Rattle.laws.proofs.Those.{those_first, those_none, those_same}
use Rattle.laws.proofs.Truth.{and_end}
use Rattle.sets.specs.declared.Set.{Set}
use Rattle.sets.specs.Sets.{room, holds}

module _ (all : Set) (start : List ℕ) (from : ℕ) where
  -- the members that are not listed, when those of `done` are
  abbrev pub waiting : Set → List ℕ
  waiting done = those room (λ u. holds all u && not (holds done u))

  -- what is listed, and then those
  pub record Listed (done : Set) (next : ℕ) (list : List ℕ) : Type 0 where
    pub count : next + length (waiting done) ≡ from + length (those room (holds all))
    pub listed : take next list ++ waiting done ≡ take from start ++ those room (holds all)
    pub long : length list ≡ length start

  pub listed_none : (none : Set) → ((u : ℕ) → holds none u ≡ false) → Listed none from start
  listed_none none empty =
      let whole = those_same room (λ u. holds all u && not (holds none u)) (holds all) (λ u _. ap (λ (b : Bool). holds all u && not b) (empty u) ∙ and_end (holds all u)) in
      record { count = omega (arith, ap length whole); listed = ap (λ (xs : List ℕ). take from start ++ xs) whole; long = refl }

  module _ (done : Set) (next : ℕ) (list : List ℕ) (h : Listed done next list) (rest : Set) (left : (u : ℕ) → holds rest u ≡ (holds all u && not (holds done u))) where
    -- v is the least that is left
    module _ (v : ℕ) (least : (v < room) × T (holds rest v) × ((u : ℕ) → u < v → holds rest u ≡ false)) where
      v_first : waiting done ≡ v ∷ those room (λ u. holds all u && not (holds done u) && not (eqb u v))
      v_first = those_first room (λ u. holds all u && not (holds done u)) v least.0 (sym (left v) ∙ T_true {b = holds rest v} least.1) (λ u l. sym (left u) ∙ least.2 u l)

      -- there is room for it
      pub listed_room : next < from + length (those room (holds all))
      listed_room = omega (arith, h.count, ap length v_first)

      next_waiting : (more : Set) → ((u : ℕ) → holds more u ≡ (eqb u v || holds done u)) → waiting done ≡ v ∷ waiting more
      next_waiting more plus =
          v_first ∙ ap (λ (xs : List ℕ). v ∷ xs) (those_same room _ (λ u. holds all u && not (holds more u)) (λ u _. same (holds all u) (eqb u v) (holds done u) ∙ ap (λ (b : Bool). holds all u && not b) (sym (plus u))))
        where
          same : (a e d : Bool) → (a && not d && not e) ≡ (a && not (e || d))
          same false e d = refl
          same true true true = refl
          same true true false = refl
          same true false true = refl
          same true false false = refl

      pub listed_more : (more : Set) → ((u : ℕ) → holds more u ≡ (eqb u v || holds done u)) → next < length list → Listed more (next + 1) (set list next v)
      listed_more more plus l = record {
        count = omega (arith, h.count, ap length (next_waiting more plus));
        listed = ap (λ (k : ℕ). take k (set list next v) ++ waiting more) (add-one next) ∙ ap (λ (xs : List ℕ). xs ++ waiting more) (take-suc-set list next v l) ∙ append_assoc (take next list) (v ∷ []) (waiting more)
            ∙ ap (λ (xs : List ℕ). take next list ++ xs) (sym (next_waiting more plus)) ∙ h.listed;
        long = length-set list next v ∙ h.long;
      }

    -- none is left
    module _ (none : (u : ℕ) → holds rest u ≡ false) where
      nothing : waiting done ≡ []
      nothing = those_none (λ u. holds all u && not (holds done u)) room (λ u _. sym (left u) ∙ none u)

      pub listed_count : next ≡ from + length (those room (holds all))
      listed_count = omega (arith, h.count, ap length nothing)

      pub listed_all : take next list ≡ take from start ++ those room (holds all)
      listed_all = sym (append-nil (take next list)) ∙ ap (λ (xs : List ℕ). take next list ++ xs) (sym nothing) ∙ h.listed
