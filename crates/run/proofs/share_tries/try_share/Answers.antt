use Rattle.timing.specs.Refusal.{verdict}
use Rattle.timing.proofs.Verdict.{said}
use Rattle.plans.specs.OnBoards.{fresh_on}
use Rattle.run.proofs.ShareVerdicts.{share_apart}
use Rattle.run.proofs.TriedShares.{share_left}
use Rattle.run.proofs.Counting.{counted_again}
use Rattle.run.proofs.share_tries.try_share.Goals as goal

pub returns-in_default-clause-tries_share : goal.returns-in_default-clause-tries_share
returns-in_default-clause-tries_share g c =
    let a = c.args in
    let k = fresh_on a.board a.table.now in
    share_left a.board a.table.now g.S.Side.side a.a a.b k (share_apart a.board a.table.now g.S.Side.side a.a a.b k _ (said verdict c.requires.difference_value c.in_default.is))

pub returns-clause-still_counted : goal.returns-clause-still_counted
returns-clause-still_counted g c =
    let a = c.args in
    counted_again a.board a.table.now a.a a.b g.S.Side.side c.requires.checked c.requires.pair a.rich.now c.requires.counted c.share.new.table (c.if-not-share.ensures.tries_share) c.is_rich.result c.is_rich-2.result c.is_rich.ensures c.is_rich-2.ensures
