use Rattle.std.proofs.Common.{sym}
use Rattle.format.proofs.AcceptedRecords.{legal, stands}
use Rattle.files.proofs.scan.turn.Goals as goal

pub record_turn-requires-clause-legal_record : goal.record_turn-requires-clause-legal_record
record_turn-requires-clause-legal_record c =
    legal c.args.n c.args.bytes.now c.args.cursor.at _ (stands c.args.library.now _ _ _ _ (sym c.in-Ok.ensures))
