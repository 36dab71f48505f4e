use Rattle.std.proofs.Common.{◌≡◌, Bool, not, false, ℤ, ◌+◌, get_or, pos, ◌-ℤ◌, length, take, drop, ◌-◌, sym, ap, ◌∙◌, w64, to_z, of_z, rules, arith}
use mathlib.Core.Path.{subst}
use lib.Dec.{T}
use lib.Signed.{lt_z, ◌≤ℤ◌, lt_z_no}
use Rattle.laws.proofs.Booleans.{true_is}
use Rattle.laws.proofs.Linear.{zarith}
use Rattle.stars.proofs.Members.{below_at, some-member}
use Rattle.stars.proofs.LeastOf.{others_long, others_at}
use Rattle.stars.proofs.Tally.{over, tallied_one, tallied_less, tallied_same, tallied_more, tallied_least, tallied_all}
use Rattle.stars.proofs.star.CentreArcs.tally.Goals as goal
use Rattle.stars.proofs.star.CentreArcs.tally.Goals.{After-difference-e, then-e-least, else-e-least}

not_less : (a b : ℤ) → lt_z a b ≡ false → b ≤ℤ a
not_less a b e = lt_z_no (subst (λ (x : Bool). T (not x)) (sym e) tt)

pub bounds-self-0 : goal.bounds-self-0
bounds-self-0 c = some-member c.args.self.now.targets.now c.args.self.now.targets_set.some

pub loop-t-init : goal.loop-t-init
loop-t-init c =
    let row = c.args.row.now in
    let first = c.args.self.now.first.now in
    let ts = c.args.self.now.targets.now in
    let said : to_z w64 (of_z w64 c.difference-least.result) ≡ get_or row (get_or ts 0 0) (pos 0) -ℤ get_or first (get_or ts 0 0) (pos 0) = search rules in
    record { few = omega arith; tallied = tallied_one row first ts (some-member ts c.args.self.now.targets_set.some) _ said }

pub offset_bounds-row-t-in-loop-t : goal.offset_bounds-row-t-in-loop-t
offset_bounds-row-t-in-loop-t c =
    let ts = c.args.self.now.targets.now in
    let i = c.loop-t.t-index in
    omega (arith, others_at ts i c.loop-t-test.true, below_at 90 ts c.args.self.now.targets_set.under (i + 1) (others_long ts i c.loop-t-test.true))

pub bounds-row-t-in-loop-t : goal.bounds-row-t-in-loop-t
bounds-row-t-in-loop-t c =
    let ts = c.args.self.now.targets.now in
    let i = c.loop-t.t-index in
    omega (arith, others_at ts i c.loop-t-test.true, below_at _ ts c.requires (i + 1) (others_long ts i c.loop-t-test.true))

pub offset_bounds-self-t-in-loop-t : goal.offset_bounds-self-t-in-loop-t
offset_bounds-self-t-in-loop-t c =
    let ts = c.args.self.now.targets.now in
    let i = c.loop-t.t-index in
    omega (arith, others_at ts i c.loop-t-test.true, below_at 90 ts c.args.self.now.targets_set.under (i + 1) (others_long ts i c.loop-t-test.true))

pub bounds-self-t-in-loop-t : goal.bounds-self-t-in-loop-t
bounds-self-t-in-loop-t c =
    let ts = c.args.self.now.targets.now in
    let i = c.loop-t.t-index in
    omega (arith, others_at ts i c.loop-t-test.true, below_at 90 ts c.args.self.now.targets_set.under (i + 1) (others_long ts i c.loop-t-test.true))

-- what is over the first source's by e stands next
next_is : (c : After-difference-e) → to_z w64 (of_z w64 c.difference-e.result) ≡ over c.args.row.now c.args.self.now.first.now (get_or c.args.self.now.targets.now (c.loop-t.t-index + 1) 0)
next_is c =
    let row = c.args.row.now in
    let first = c.args.self.now.first.now in
    let ts = c.args.self.now.targets.now in
    let t = get_or (take (length ts - 1) (drop 1 ts)) c.loop-t.t-index 0 in
    let said : to_z w64 (of_z w64 c.difference-e.result) ≡ get_or row t (pos 0) -ℤ get_or first t (pos 0) = search rules in
    said ∙ ap (over row first) (others_at ts c.loop-t.t-index c.loop-t-test.true)

pub loop-t-preserved-then-least-e : goal.loop-t-preserved-then-least-e
loop-t-preserved-then-least-e c =
    let l = c.loop-t in
    let is = next_is (goal.at.loop-t-preserved-then-least-e c).After-difference-e in
    record {
      few = omega (arith, l.invariant.few);
      tallied = tallied_more c.args.row.now c.args.self.now.first.now c.args.self.now.targets.now l.t-index c.loop-t-test.true _ l.covered l.invariant.tallied _ is (record { lt = true_is c.if-least-e.true });
    }

pub loop-t-preserved : goal.loop-t-preserved
loop-t-preserved c =
    let l = c.loop-t in
    let is = next_is (goal.at.loop-t-preserved c).After-difference-e in
    let row = c.args.row.now in
    let first = c.args.self.now.first.now in
    let ts = c.args.self.now.targets.now in
    let here = c.loop-t-test.true in
    elim c.if-e-least.branch [
      | then-e-least w ↦ record {
        few = omega (arith, w.covered-is);
        tallied = rw (w.least-is, w.covered-is) (tallied_less row first ts l.t-index here _ l.covered l.invariant.tallied _ is (record { lt = true_is w.if-e-least.true }));
      }
      | else-e-least w ↦
          let e = to_z w64 (of_z w64 c.difference-e.result) in
          let low = not_less (to_z w64 l.least-bits) e c.if-least-e.false in
          let high = not_less e (to_z w64 l.least-bits) w.if-e-least.false in
          record {
            few = omega (arith, w.covered-is, l.invariant.few);
            tallied = rw (w.least-is, w.covered-is) (tallied_same row first ts l.t-index here _ l.covered l.invariant.tallied _ is (omega (zarith, low, high)));
          }
    ]

pub returns-clause-least : goal.returns-clause-least
returns-clause-least c =
    let ts = c.args.self.now.targets.now in
    tallied_least c.args.row.now c.args.self.now.first.now ts c.loop-t.t-index (some-member ts c.args.self.now.targets_set.some) c.loop-t-test.false _ c.loop-t.covered c.loop-t.invariant.tallied

pub returns-clause-covered : goal.returns-clause-covered
returns-clause-covered c =
    let ts = c.args.self.now.targets.now in
    tallied_all c.args.row.now c.args.self.now.first.now ts c.loop-t.t-index (some-member ts c.args.self.now.targets_set.some) c.loop-t-test.false _ c.loop-t.covered c.loop-t.invariant.tallied
