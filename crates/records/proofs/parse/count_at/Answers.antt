use Rattle.std.proofs.Common.{◌≡◌, ap, ◌∙◌, ◌+◌, length, arith, le-leb}
use Rattle.timing.specs.Refusal.{accepted}
use Rattle.codec.specs.Bytes.{unsigned_at}
use Rattle.codec.proofs.Places.{part_unsigned}
use Rattle.records.proofs.parse.count_at.Goals as goal

pub returns : goal.returns
returns c =
    let a = c.args in
    let n : c.number.result ≡ unsigned_at 2 a.bytes.now (a.at + 2) = c.number.ensures ∙ part_unsigned a.bytes.now (a.at + 2) 2 _ (omega arith) (omega arith) in
    simp (le-leb (a.at + 4) (length a.bytes.now) (omega arith)) (ap accepted n)
