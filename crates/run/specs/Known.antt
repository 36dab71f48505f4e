-- What is known of the table between rounds.
use Rattle.std.specs.Prelude.{◌≡◌, Bool, true, false, None, List, ℤ}
use Rattle.paths.specs.declared.board.Board.{Board}
use Rattle.paths.specs.Checked.{Passable}
use Rattle.finder.specs.Finding.{find_star_on}
use Rattle.run.specs.declared.round.Known.{Known}
use Rattle.run.specs.declared.round.Known.TheVariants.{Sorted, Lean, Starless}
use Rattle.run.specs.Running.{LeanOn}

abbrev pub KnownOf : Board → List ℤ → Known → Type 0
KnownOf b t (Sorted order) = Passable b t order
KnownOf b t Lean = LeanOn b t
KnownOf b t Starless = LeanOn b t × (find_star_on b t ≡ None)

-- that it is lean
abbrev pub says_lean : Known → Bool
says_lean (Sorted order) = false
says_lean Lean = true
says_lean Starless = true
