-- The try of the finder's star.
use Rattle.std.specs.Prelude.{Option, None}
use mathlib.Core.Path.{◌≡◌, refl, sym, ap, ◌∙◌, subst}
use mathlib.Core.Bool.{Bool, true, false}
use mathlib.Core.List.{List}
use Prim.Native.Nat.{ℕ, ◌+◌}
use native.Mathlib.Omega.{arith}
use lib.IntN.{ℤ}
use Rattle.laws.proofs.Booleans.{true_is}
use Rattle.timing.specs.Limits.{scratch_cells}
use Rattle.reduction.specs.FindStar.{Found, star_of}
use Rattle.reduction.specs.Run.{Progress, attempt, round, try_found, try_star}
use Rattle.reduction.proofs.LeanRun.{found_lean}
use Rattle.reduction.proofs.Rounds.{All, Gains}
use Rattle.reduction.proofs.Run.{star_gains}
use Rattle.paths.specs.declared.board.Board.{Board}
use Rattle.paths.specs.Board.{graph_in}
use Rattle.paths.specs.Checked.{Checked}
use Rattle.finder.specs.Finding.{find_star_on, Made}
use Rattle.run.specs.Running.{progress, Reaches, LeanOn, star_try}
use Rattle.run.proofs.Moving.{gained, moves}

pub star_gain : (b : Board) (s : ℕ) → All (Gains b.inputs b.outputs b.vertices) (star_try b s)
star_gain b s = (star_gains b.inputs b.outputs b.vertices s, tt)

-- where none is found the try is skipped
pub star_skipped : (b : Board) (p : Progress) → find_star_on b p.table ≡ None → Reaches b.vertices (star_try b) p p
unfolding round try_star
star_skipped b p e s room = ap (λ (x : Option Found). attempt (try_found b.inputs b.outputs b.vertices s p.table x) p) e

module _ {b : Board} {t : List ℤ} (ok : Checked b t) (after : List ℤ) (c : ℕ) where
  pub star_reached : (r : Bool) → Made b t after r → Reaches b.vertices (star_try b) (progress t c) (progress after (c + gained r))
  unfolding round try_star
  star_reached false h =
      let k = h.none refl in
      λ s room. star_skipped b (progress t c) k.0 s room ∙ ap (progress t) (omega arith) ∙ ap (λ (x : List ℤ). progress x (c + 0)) (sym k.1)
  star_reached true h =
      let k = h.star refl in
      λ s room. ap (λ (x : Option Found). attempt (try_found b.inputs b.outputs b.vertices s t x) (progress t c)) k.1
      ∙ moves ok (star_of b.inputs b.outputs b.vertices (graph_in b t) k.0.vertex) after true (record { taken = λ _. k.2; refused = λ z. absurd (true_is (sym z)) }) s c room

-- and a lean table is left
pub star_leaves : (b : Board) (p q : Progress) → Reaches b.vertices (star_try b) p q → LeanOn b p.table → LeanOn b q.table
star_leaves b p q way h =
    let s = scratch_cells b.vertices in
    subst (λ (x : Progress). LeanOn b x.table) (way s (omega arith)) (found_lean b.inputs b.outputs b.vertices s p h)
