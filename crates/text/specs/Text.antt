-- The room that a text needs.
use Rattle.std.specs.Prelude.{ℕ}

-- 15 bytes of size, 22 of each of 4,005 arcs (90 × 89 / 2: there is no cycle) and 24 of counts; a refusal has 33
abbrev pub text_bytes : ℕ
text_bytes = 88149
