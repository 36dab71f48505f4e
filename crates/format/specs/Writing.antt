-- Writing a board file.
use Rattle.std.specs.Prelude.{List, [], ◌∷◌, ◌++◌, ℕ, leb, ℤ, length, drop}
use Rattle.laws.specs.Lists.{tabulate}
use Rattle.graph.specs.Graph.{Graph}
use Rattle.timing.specs.declared.Refusal.TheVariants.{DestinationShort}
use Rattle.timing.specs.Refusal.{Verdict, accepted, require, ◌then◌}
use Rattle.timing.specs.Checks.{checked}
use Rattle.codec.specs.Bytes.{byte_of, pattern}
use Rattle.format.specs.Arcs.{Arc, arcs_of}

-- BD, AR and EN
abbrev pub board_record : ℕ → ℕ → ℕ → List ℕ
board_record m n N = 66 ∷ 68 ∷ m ∷ n ∷ N ∷ []

abbrev pub arc_record : Arc → List ℕ
arc_record a = 65 ∷ 82 ∷ a.from ∷ a.to ∷ tabulate 4 (byte_of (pattern 4 a.delay))

abbrev pub end_record : ℕ → List ℕ
end_record n = 69 ∷ 78 ∷ tabulate 2 (byte_of n)

unfoldable pub arc_records : List Arc → List ℕ
arc_records [] = []
arc_records (a ∷ as') = arc_record a ++ arc_records as'

unfoldable pub file_of : ℕ → ℕ → ℕ → Graph → List ℕ
file_of m n N g = board_record m n N ++ arc_records (arcs_of N g) ++ end_record (length (arcs_of N g))

-- the destination afterwards, and the byte count; bytes beyond it stay
pub record Written : Type 0 where
  pub bytes : List ℕ
  pub count : ℕ

-- 21 where the destination is shorter
abbrev pub file_into : ℕ → ℕ → ℕ → List ℕ → Graph → Verdict Written
file_into m n N destination g =
    require (leb (length (file_of m n N g)) (length destination)) DestinationShort
    (accepted (record { bytes = file_of m n N g ++ drop (length (file_of m n N g)) destination; count = length (file_of m n N g) }))

-- s is the length of the scratch
unfoldable pub write_call : ℕ → ℕ → ℕ → ℕ → List ℤ → List ℕ → Verdict Written
write_call m n N s t destination = checked m n N s t then file_into m n N destination
