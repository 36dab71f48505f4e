-- What is found at an offset: document 01's number, or what stands there.
use Rattle.std.specs.Prelude.{◌&&◌, List, ℕ, ◌+◌, leb, ltb, length}
use Rattle.timing.specs.declared.Refusal.TheVariants.{FileEnds, WrongField}
use Rattle.timing.specs.Refusal.{Verdict, accepted, require}
use Rattle.codec.specs.Bytes.{unsigned_at}
use Rattle.format.specs.Records.{from, to}

-- the ends of a record of so many bytes: they are all there, then both ends are vertices
unfoldable pub ends_of : ℕ → List ℕ → ℕ → ℕ → Verdict (ℕ × ℕ)
ends_of N s p size =
    require (leb (p + size) (length s)) FileEnds
    (require (ltb (from N s p) N && ltb (to N s p) N) WrongField
    (accepted (from N s p, to N s p)))

-- the count in a last record
abbrev pub count_of : List ℕ → ℕ → Verdict ℕ
count_of s p = require (leb (p + 4) (length s)) FileEnds (accepted (unsigned_at 2 s (p + 2)))
