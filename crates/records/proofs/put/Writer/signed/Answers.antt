use Rattle.std.proofs.Common.{◌≡◌, refl, ap, ◌∙◌, ℕ, ◌+◌, ◌-◌, length, take, drop, arith, w64}
use lib.ListN.{length-take, length-drop}
use Rattle.laws.specs.Lists.{tabulate}
use Rattle.codec.specs.Bytes.{byte_of, pattern}
use mir.Facts.{to_z-of_z}
use Rattle.records.proofs.Appending.{puts_by, appends_bytes}
use Rattle.records.proofs.put.Writer.signed.Goals as goal

pub returns : goal.returns
returns c =
    let s = c.args.self.now in
    let long : length (take (s.at + c.args.width - s.at) (drop s.at s.out.now)) ≡ c.args.width = simp (length-take, length-drop) (omega (arith, c.requires.room.inside)) in
    puts_by refl (appends_bytes _ _ _ _ _ _ c.requires.room.inside (omega arith) (rw (to_z-of_z {w = w64} c.ranges.x) at c.encode.ensures.bytes_after ∙ ap (λ (w : ℕ). tabulate (length (take (s.at + c.args.width - s.at) (drop s.at s.out.now))) (byte_of (pattern w c.args.x))) long))
