-- The least over a list that is walked from its front.
use mathlib.Core.Path.{◌≡◌, refl, sym, ap, ◌∙◌}
use mathlib.Core.List.{List, [], ◌∷◌}
use Prim.Native.Nat.{ℕ, zero, suc, ◌+◌, ◌-◌, ◌≤◌, ◌<◌}
use native.Mathlib.Numerals.{add-one}
use native.Mathlib.Omega.{arith}
use lib.ListN.{length, get_or, take, drop}
use lib.IntN.{ℤ}
use Rattle.std.proofs.lemmas.Int.{ints, clamps}
use Rattle.std.proofs.lemmas.List.{places, take_all}
use Rattle.laws.specs.Integers.{min_z}
use Rattle.graph.specs.Delay.{Delay, at, absent, ◌⋒◌, least}

min_assoc : (a b c : ℤ) → min_z a (min_z b c) ≡ min_z (min_z a b) c
unfolding min_z
min_assoc a b c = grind (arith, ints, clamps)

lesser_assoc : (x y z : Delay) → x ⋒ (y ⋒ z) ≡ (x ⋒ y) ⋒ z
lesser_assoc absent y z = refl
lesser_assoc (at a) absent z = refl
lesser_assoc (at a) (at b) absent = refl
lesser_assoc (at a) (at b) (at c) = ap at (min_assoc a b c)

-- the least over one place more
pub least_push : (xs : List ℕ) (f : ℕ → Delay) (i : ℕ) → i + 1 < length xs → least (take (suc (suc i)) xs) f ≡ least (take (suc i) xs) f ⋒ f (get_or xs (suc i) 0)
unfolding least
least_push [] f i l = absurd (omega arith)
least_push (x ∷ []) f i l = absurd (omega arith)
least_push (x ∷ y ∷ ys) f zero l = refl
least_push (x ∷ y ∷ ys) f (suc i) l = ap (λ (d : Delay). f x ⋒ d) (least_push (y ∷ ys) f i (omega arith)) ∙ lesser_assoc (f x) (least (take (suc i) (y ∷ ys)) f) (f (get_or (y ∷ ys) (suc i) 0))

pub least_one : (xs : List ℕ) (f : ℕ → Delay) → 0 < length xs → least (take 1 xs) f ≡ f (get_or xs 0 0)
unfolding least
least_one [] f l = absurd (omega arith)
least_one (x ∷ xs) f l = refl

-- the others than the first
module _ (xs : List ℕ) (i : ℕ) (l : i < length (take (length xs - 1) (drop 1 xs))) where
  pub others_long : i + 1 < length xs
  others_long = grind (arith, places)

  pub others_at : get_or (take (length xs - 1) (drop 1 xs)) i 0 ≡ get_or xs (i + 1) 0
  others_at = grind (arith, places)

  -- a is the least so far, and b the next
  pub least_turn_front : (f : ℕ → Delay) (a b : ℤ) → at a ≡ least (take (suc i) xs) f → at b ≡ f (get_or xs (i + 1) 0) → at (min_z a b) ≡ least (take (suc (i + 1)) xs) f
  least_turn_front f a b ea eb =
      (λ k. ea k ⋒ eb k) ∙ ap (λ (j : ℕ). least (take (suc i) xs) f ⋒ f (get_or xs j 0)) (add-one i)
      ∙ sym (least_push xs f i others_long) ∙ ap (λ (j : ℕ). least (take (suc j) xs) f) (sym (add-one i))

pub least_whole : (xs : List ℕ) (i : ℕ) (f : ℕ → Delay) → 0 < length xs → length (take (length xs - 1) (drop 1 xs)) ≤ i → least (take (suc i) xs) f ≡ least xs f
least_whole xs i f p l = ap (λ (ys : List ℕ). least ys f) (take_all (suc i) xs (let q : length (take (length xs - 1) (drop 1 xs)) ≡ length xs - 1 = grind (arith, places) in omega arith))
