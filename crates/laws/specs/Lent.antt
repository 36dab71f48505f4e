-- What a contract says of lent memory.
use Rattle.std.specs.Prelude.{◌≡◌, List, ℕ, drop}

-- past the first n cells a lent list is as it was
abbrev pub Past : {A : Type 0} → ℕ → List A → List A → Type 0
Past n before after = drop n after ≡ drop n before
