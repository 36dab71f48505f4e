-- What a measured call answers: 0, or document 01's number.
use Rattle.std.specs.Prelude.{◌≡◌, Option, Some, None, ℕ}
use Rattle.timing.specs.Refusal.{Verdict, refused, accepted, left_by}
use Rattle.timing.specs.Margins.{Times}
use Rattle.reduction.specs.FindStar.{Found}
use Rattle.format.specs.Reading.{Reading, stopped, got}

abbrev pub number_of : {A : Type 0} → Verdict A → ℕ
number_of (refused r) = r
number_of (accepted x) = 0

abbrev pub read_number : {A : Type 0} → Reading A → ℕ
read_number (stopped r p) = r
read_number (got x) = 0

-- r is that number of v, and the lent thing is v's, or as it was
pub record Measures {A L : Type 0} (part : A → L) (v : Verdict A) (before after : L) (r : ℕ) : Type 0 where
  pub number : r ≡ number_of v
  pub left : after ≡ left_by part v before

-- the same of a call on three lent lists
abbrev pub Tells : (Times → Verdict Times) → Times → Times → ℕ → Type 0
Tells call before after r = Measures (λ v. v) (call before) before after r

-- the vertex found and its saving, or what was there
abbrev pub star_left : Verdict (Option Found) → ℕ × ℕ → ℕ × ℕ
star_left (accepted (Some f)) before = (f.vertex, f.saving)
star_left (accepted None) before = before
star_left (refused r) before = before
