use Rattle.files.proofs.Entries.{Placing}
use Rattle.files.proofs.read_library.place_entries.Given as goal

abbrev pub invariant-loop-at : goal.invariant-loop-at
invariant-loop-at l = Placing l.bytes l.library l.at
