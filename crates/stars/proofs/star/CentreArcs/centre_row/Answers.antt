use Rattle.std.proofs.Common.{get_or, pos, sym, ◌∙◌, refl, length, rules, arith}
use Rattle.laws.proofs.Booleans.{is_true}
use Rattle.laws.specs.Bounded.{member}
use Rattle.stars.specs.StarCells.{centre_cell}
use Rattle.stars.proofs.Members.{below_at, member_at}
use Rattle.stars.proofs.Rewriting.{rewriting_start, rewriting_set, rewriting_end}
use Rattle.stars.proofs.RowCells.{centre_target, centre_other}
use Rattle.stars.proofs.star.CentreArcs.centre_row.Goals as goal

pub loop-t-init : goal.loop-t-init
loop-t-init c =
    let row = c.args.row.now in
    let first = c.args.self.now.first.now in
    let ts = c.args.self.now.targets.now in
    rewriting_start ts (λ v. get_or row v (pos 0)) (centre_cell row first ts) row (λ v. refl) (centre_other row first ts)

pub loop-t-preserved : goal.loop-t-preserved
loop-t-preserved c =
    let row = c.args.row.now in
    let first = c.args.self.now.first.now in
    let ts = c.args.self.now.targets.now in
    let l = c.loop-t in
    let t = get_or ts l.t-index 0 in
    rewriting_set ts (λ v. get_or row v (pos 0)) (centre_cell row first ts) l.t-index c.loop-t-test.true l.row l.invariant c.args.self.now.targets_set.apart
    (omega (arith, below_at _ ts c.requires l.t-index c.loop-t-test.true)) _ (search rules ∙ sym (centre_target row first ts t (is_true (member t ts) (member_at ts l.t-index c.loop-t-test.true))))

pub returns : goal.returns
returns c =
    let row = c.args.row.now in
    let ts = c.args.self.now.targets.now in
    let l = c.loop-t in
    rewriting_end ts (λ v. get_or row v (pos 0)) (centre_cell row c.args.self.now.first.now ts) l.t-index (omega arith) l.row (length row) (omega arith) l.invariant
