-- The records of arcs, and how many bytes a file has.
use mathlib.Core.Path.{◌≡◌, refl, sym, ap, ◌∙◌}
use mathlib.Core.List.{List, [], ◌∷◌, ◌++◌}
use Prim.Native.Nat.{ℕ, ◌+◌, ◌*◌}
use native.Mathlib.Omega.{arith}
use lib.ListN.{length, length-append}
use Rattle.laws.proofs.Lists.{length-tabulate}
use Rattle.graph.specs.Graph.{Graph}
use Rattle.graph.specs.Count.{arcs}
use Rattle.codec.specs.Bytes.{byte_of, pattern}
use Rattle.format.specs.Arcs.{Arc, arcs_of}
use Rattle.format.specs.Writing.{board_record, arc_record, end_record, arc_records, file_of}
use Rattle.files.proofs.ArcParts.{arcs_count}

records_length : (xs : List Arc) → length (arc_records xs) ≡ 8 * length xs
unfolding arc_records
records_length [] = refl
records_length (a ∷ xs) = omega (arith, length-append (arc_record a) (arc_records xs), length-tabulate (byte_of (pattern 4 a.delay)) 4, records_length xs)

module _ (N : ℕ) (g : Graph) where
  pub all_records_length : length (arc_records (arcs_of N g)) ≡ 8 * arcs N g
  all_records_length = records_length (arcs_of N g) ∙ ap (λ (k : ℕ). 8 * k) (arcs_count N g)

  -- the file, with its count of arcs as the code has it
  pub file_parts : (m n : ℕ) → board_record m n N ++ arc_records (arcs_of N g) ++ end_record (arcs N g) ≡ file_of m n N g
  unfolding file_of
  file_parts m n = ap (λ (k : ℕ). board_record m n N ++ arc_records (arcs_of N g) ++ end_record k) (sym (arcs_count N g))

  pub file_length : (m n : ℕ) → length (file_of m n N g) ≡ 9 + 8 * arcs N g
  file_length m n =
      omega (
        arith,
        ap length (file_parts m n),
        length-append (board_record m n N ++ arc_records (arcs_of N g)) (end_record (arcs N g)),
        length-append (board_record m n N) (arc_records (arcs_of N g)),
        length-tabulate (byte_of (arcs N g)) 2,
        all_records_length,
      )
