use Rattle.std.proofs.Common.{rules, ◌≡◌, ◌∙◌, ◌+◌, arith}
use Rattle.codec.specs.Bytes.{signed_at}
use Rattle.codec.proofs.Places.{part_signed}
use Rattle.records.proofs.library.ticks_at.Goals as goal

pub returns-then-not-ticks_fit : goal.returns-then-not-ticks_fit
returns-then-not-ticks_fit c =
    let a = c.args in
    let d : c.decode-ticks.result ≡ signed_at 4 a.bytes.now (a.at + 3) = c.decode-ticks.ensures ∙ part_signed a.bytes.now (a.at + 3) 4 _ (omega arith) (omega arith) in
    search rules

pub returns : goal.returns
returns c =
    let a = c.args in
    let d : c.decode-ticks.result ≡ signed_at 4 a.bytes.now (a.at + 3) = c.decode-ticks.ensures ∙ part_signed a.bytes.now (a.at + 3) 4 _ (omega arith) (omega arith) in
    search rules
