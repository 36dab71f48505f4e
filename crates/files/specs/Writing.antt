-- What the answer of `write` means, and what becomes of the destination.
use Rattle.timing.specs.declared.Refusal.{Refusal}
use Rattle.std.specs.Prelude.{Err, Ok, Result, List, ℕ, ℤ}
use Rattle.timing.specs.Refusal.{number, Verdict, refused, accepted, Answers}
use Rattle.format.specs.Writing.{board_record, file_of, Written, file_into}
use Rattle.paths.specs.declared.board.Board.{Board}
use Rattle.paths.specs.Board.{graph_in}

-- document 01's number, or the destination afterwards and the byte count
abbrev pub written_meaning : Result ℕ Refusal → List ℕ → Verdict Written
written_meaning (Ok count) destination = accepted (record { bytes = destination; count = count })
written_meaning (Err r) destination = refused (number r)

-- r and the destination afterwards are what v says
abbrev pub Writes : Verdict Written → List ℕ → List ℕ → Result ℕ Refusal → Type 0
Writes = Answers written_meaning (λ w. w.bytes)

-- a board's BD, and its file
abbrev pub board_mark : Board → List ℕ
board_mark b = board_record b.inputs b.outputs b.vertices

abbrev pub board_file : Board → List ℤ → List ℕ
board_file b t = file_of b.inputs b.outputs b.vertices (graph_in b t)

-- `write_call` after its checks, at a board's table
abbrev pub file_on : Board → List ℤ → List ℕ → Verdict Written
file_on b t destination = file_into b.inputs b.outputs b.vertices destination (graph_in b t)
