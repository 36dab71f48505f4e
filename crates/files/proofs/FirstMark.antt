-- A mark that is not the first record's.
use mathlib.Core.Path.{◌≡◌, refl}
use mathlib.Core.Logic.{◌⊎◌, inl, inr}
use mathlib.Core.Bool.{false}
use mathlib.Core.List.{[], ◌∷◌}
use Prim.Native.Nat.{ℕ}
use native.Mathlib.Omega.{arith}
use denote.Enum.Declared.{tag_of}
use types.Run.{OneOf}
use Rattle.format.specs.contracts.Mark.{the_type}
use Rattle.format.specs.declared.Mark.{Mark}
use Rattle.format.specs.declared.Mark.TheVariants as M
use Rattle.format.specs.Reading.{is_board}

pub other_mark : (x : Mark) → OneOf (1 ∷ 2 ∷ 3 ∷ 4 ∷ 5 ∷ []) (tag_of the_type x) → is_board x ≡ false
other_mark M.Board h = absurd (never h)
  where
    never : (◌≡◌ {A = ℕ} 0 1) ⊎ ((◌≡◌ {A = ℕ} 0 2) ⊎ ((◌≡◌ {A = ℕ} 0 3) ⊎ ((◌≡◌ {A = ℕ} 0 4) ⊎ (◌≡◌ {A = ℕ} 0 5)))) → ⊥
    never (inl e) = omega arith
    never (inr (inl e)) = omega arith
    never (inr (inr (inl e))) = omega arith
    never (inr (inr (inr (inl e)))) = omega arith
    never (inr (inr (inr (inr e)))) = omega arith
other_mark M.Arc h = refl
other_mark M.Cell h = refl
other_mark M.End h = refl
other_mark M.Library h = refl
other_mark M.Other h = refl
