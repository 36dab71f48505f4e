use Rattle.std.proofs.Common.{◌+◌, ◌-◌, ap, length, ◌∙◌}
use borrow.Rule.Slice.PartMut.{put_mid}
use Rattle.timing.specs.Limits.{absent_wide}
use Rattle.paths.proofs.Rows.{replicate_is}
use Rattle.paths.proofs.Starting.{times_placed}
use Rattle.paths.proofs.arrivals.start.Goals as goal

pub returns : goal.returns
returns c =
    let n = length c.args.f.now in
    let times = c.args.times.now in
    ap (put_mid c.args.at (c.args.at + length times - c.args.at) c.fill.new.self) c.copy.ensures
    ∙ times_placed n c.args.at times c.fill.new.self c.requires (c.fill.ensures.after (λ y e. e) ∙ replicate_is n absent_wide)
