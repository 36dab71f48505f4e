use Rattle.std.proofs.Common.{arith}
use Rattle.laws.proofs.Booleans.{T-not-false}
use Rattle.sets.proofs.Counting.{plus_fewer}
use Rattle.reach.proofs.Reaching.{is_left}
use Rattle.finder.proofs.Listing.{listed_room, listed_more, listed_count, listed_all}
use Rattle.finder.proofs.block.list_members.Goals as goal

pub bounds-list-next : goal.bounds-list-next
bounds-list-next c =
    let l = c.loop-v in
    omega (arith, c.requires, listed_room c.args.set c.args.list.now c.args.from l.done l.next l.list l.invariant c.without.result c.without.ensures c.in-Some.v c.in-Some.ensures)

pub loop-v-smaller : goal.loop-v-smaller
loop-v-smaller c =
    let l = c.loop-v in
    plus_fewer c.in-Some.v l.done c.plus-done.result c.in-Some.ensures.0 (T-not-false (is_left c.args.set l.done c.without.result c.without.ensures c.in-Some.v c.in-Some.ensures.1).1) c.plus-done.ensures

pub loop-v-preserved : goal.loop-v-preserved
loop-v-preserved c =
    let l = c.loop-v in
    listed_more c.args.set c.args.list.now c.args.from l.done l.next l.list l.invariant c.without.result c.without.ensures c.in-Some.v c.in-Some.ensures c.plus-done.result c.plus-done.ensures
    (omega (arith, c.requires, l.invariant.long, c.fits-list, listed_room c.args.set c.args.list.now c.args.from l.done l.next l.list l.invariant c.without.result c.without.ensures c.in-Some.v c.in-Some.ensures))

pub returns-clause-count : goal.returns-clause-count
returns-clause-count c =
    let l = c.loop-v in
    listed_count c.args.set c.args.list.now c.args.from l.done l.next l.list l.invariant c.without.result c.without.ensures c.in_default.ensures

pub returns-clause-listed : goal.returns-clause-listed
returns-clause-listed c =
    let l = c.loop-v in
    listed_all c.args.set c.args.list.now c.args.from l.done l.next l.list l.invariant c.without.result c.without.ensures c.in_default.ensures
