-- Appending to a lent run of bytes.
use Rattle.std.specs.Prelude.{◌≡◌, List, ℕ, ◌+◌, ◌≤◌, length}
use Rattle.std.proofs.lemmas.List.Edits.{sets}

-- xs has room from place p on
abbrev pub RoomFor : List ℕ → List ℕ → ℕ → Type 0
RoomFor xs s p = p + length xs ≤ length s

-- `after` is `before` with xs from place p on, and q is the place after xs
pub record Appends (xs before : List ℕ) (p : ℕ) (after : List ℕ) (q : ℕ) : Type 0 where
  pub bytes : after ≡ sets before p xs
  pub end : q ≡ p + length xs
