use Rattle.std.proofs.Common.{sym}
use Rattle.format.proofs.AcceptedRecords.{legal_entry}
use Rattle.files.proofs.read_library.turn.Goals as goal

pub item_turn-requires-clause-legal_entry : goal.item_turn-requires-clause-legal_entry
item_turn-requires-clause-legal_entry c = legal_entry c.args.bytes.now c.args.cursor.at _ (sym c.in-Ok.ensures)
