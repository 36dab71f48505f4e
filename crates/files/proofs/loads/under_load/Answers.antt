use Rattle.std.proofs.Common.{◌≡◌, sym, ap, ◌∙◌, ◌+◌, ◌*◌, ◌≤◌, arith, ℤ, w32}
use lib.IntN.{nat_abs}
use mir.Facts.{to_z-of_z, to_z_pos}
use Rattle.timing.specs.Limits.{delay_limit}
use Rattle.format.specs.Records.{under_load}
use Rattle.files.proofs.CellLoads.{fifths_few}
use Rattle.files.proofs.loads.under_load.Goals as goal

pub returns : goal.returns
returns c =
    let r = c.requires in
    let ticks : c.from.result ≡ r.ticks = c.from.ensures ∙ c.unsigned_abs.ensures.value ∙ ap nat_abs (to_z-of_z {w = w32} c.ranges.ticks ∙ r.same) in
    let few : r.ticks * (5 + c.args.load) ≤ 5 * delay_limit = fifths_few r.ticks c.args.load r.few c.ranges.load.fits in
    rw (ticks, c.from-2.ensures) (to_z_pos w32 (omega (arith, few)) ∙ sym (ap (λ (z : ℤ). under_load z c.args.load) r.same))
