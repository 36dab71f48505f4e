-- The best star, one vertex after another.
use Rattle.std.specs.Prelude.{Option, Some, None}
use mathlib.Core.Path.{◌≡◌, refl, sym, ap, ◌∙◌}
use mathlib.Core.Bool.{Bool, true, false, cond, ◌&&◌}
use mathlib.Core.List.{List}
use Prim.Native.Nat.{ℕ, ◌+◌, ◌≤◌}
use native.Mathlib.Numerals.{add-one}
use native.Mathlib.Omega.{arith}
use lib.Dec.{ltb}
use lib.IntN.{ℤ}
use Rattle.reduction.specs.FindStar.{saving_of, Found, saved_by, is_candidate, best_below, find_star}
use Rattle.paths.specs.declared.board.Board.{Board}
use Rattle.paths.specs.Board.{graph_in}
use Rattle.finder.specs.Finding.{find_star_on, best_on, offered_on}

-- what is offered, in the place of the best before
abbrev pub chosen : ℕ → Option ℕ → Option Found → Option Found
chosen a (Some x) best = Some (record { vertex = a; saving = x })
chosen a None best = best

module _ (b : Board) (t : List ℤ) where
  pub best_first : None ≡ best_on b t 0
  unfolding best_below
  best_first = refl

  pub best_next : (a : ℕ) (best : Option Found) → best ≡ best_on b t a → (r : Option ℕ) → r ≡ offered_on b t a (saved_by best) → chosen a r best ≡ best_on b t (a + 1)
  unfolding best_below
  best_next a best e r offered = ap (λ (x : Option ℕ). chosen a x best) offered ∙ go (test best) ∙ ap (λ (x : Option Found). cond (test x) (Some (record { vertex = a; saving = saving })) x) e
      ∙ ap (best_on b t) (sym (add-one a))
    where
      saving : ℕ
      saving = saving_of b.vertices (graph_in b t) a

      test : Option Found → Bool
      test x = is_candidate b.inputs b.outputs b.vertices (graph_in b t) a && ltb (saved_by x) (saving_of b.vertices (graph_in b t) a)

      go : (c : Bool) → chosen a (cond c (Some saving) None) best ≡ cond c (Some (record { vertex = a; saving = saving })) best
      go true = refl
      go false = refl

  pub best_last : (a : ℕ) → a ≤ b.vertices → b.vertices ≤ a → best_on b t a ≡ find_star_on b t
  unfolding find_star
  best_last a low high = ap (best_on b t) (omega arith)
