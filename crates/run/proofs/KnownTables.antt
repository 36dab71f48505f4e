-- What is known of a table when a round begins, after some of its tries.
use Rattle.std.specs.Prelude.{Option, Some, None, IfSome}
use mathlib.Core.Path.{◌≡◌, sym, subst}
use mathlib.Core.List.{List}
use Prim.Native.Nat.{ℕ}
use lib.Dec.{T}
use lib.IntN.{ℤ}
use Rattle.paths.specs.declared.board.Board.{Board}
use Rattle.paths.specs.Checked.{Passable}
use Rattle.finder.specs.Finding.{find_star_on}
use Rattle.run.specs.declared.round.Known.{Known}
use Rattle.run.specs.declared.round.Known.TheVariants.{Sorted, Lean, Starless}
use Rattle.run.specs.Known.{says_lean, KnownOf}
use Rattle.run.specs.Running.{LeanOn}

module _ (b : Board) (t t' : List ℤ) (known : Known) (h : KnownOf b t known) where
  -- the order, of a table that has not changed
  pub order_of_known : (order : Option (List ℕ)) (before after : ℕ) → IfSome order (λ o. (known ≡ Sorted o) × (after ≡ before)) → (after ≡ before → t' ≡ t) → IfSome order (Passable b t')
  order_of_known None before after is same = tt
  order_of_known (Some o) before after is same = subst (λ (x : List ℤ). Passable b x o) (sym (same is.1)) (subst (KnownOf b t) is.0 h)

  pub lean_of_known : T (says_lean known) → t' ≡ t → LeanOn b t'
  lean_of_known is same = subst (LeanOn b) (sym same) (go known is h)
    where
      go : (k : Known) → T (says_lean k) → KnownOf b t k → LeanOn b t
      go (Sorted o) z k = absurd z
      go Lean z k = k
      go Starless z k = k.0

  pub starless_of_known : known ≡ Starless → t' ≡ t → find_star_on b t' ≡ None
  starless_of_known is same = subst (λ (x : List ℤ). find_star_on b x ≡ None) (sym same) (subst (KnownOf b t) is h).1
