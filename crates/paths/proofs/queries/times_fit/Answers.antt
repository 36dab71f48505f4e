use Rattle.std.proofs.Common.{◌≡◌, true, false, eqb, length, arith}
use Rattle.std.proofs.lemmas.Int.{to_z-of_z}
use Rattle.laws.specs.Bounded.{every}
use Rattle.laws.proofs.Booleans.{T_true, eq→eqb, eqb_other}
use Rattle.laws.proofs.Bounded.{every_none, every_more, every_broken}
use Rattle.timing.specs.Limits.{arrival_limit, fits}
use Rattle.timing.specs.Delays.{arrival_in, arrivals_fit}
use Rattle.paths.proofs.queries.times_fit.Goals as goal

pub returns-then-given-count : goal.returns-then-given-count
unfolding arrivals_fit
returns-then-given-count c = simp (eqb_other _ _ c.if-given-count.true)

pub loop-x-init : goal.loop-x-init
loop-x-init c = every_none _

pub returns-then-not-arrival_fits : goal.returns-then-not-arrival_fits
unfolding arrivals_fit
returns-then-not-arrival_fits c =
    let said : fits arrival_limit (arrival_in c.args.given.now c.loop-x.x-index) ≡ false = grind (arith, to_z-of_z) in
    let long : eqb (length c.args.given.now) c.args.count ≡ true = T_true {b = eqb (length c.args.given.now) c.args.count} (eq→eqb _ _ c.if-given-count.false) in
    let broken : every c.args.count (λ k. fits arrival_limit (arrival_in c.args.given.now k)) ≡ false = every_broken _ _ c.loop-x.x-index (omega arith) said in
    simp (long, broken)

pub loop-x-preserved : goal.loop-x-preserved
loop-x-preserved c =
    let said : fits arrival_limit (arrival_in c.args.given.now c.loop-x.x-index) ≡ true = grind (arith, to_z-of_z) in
    every_more _ _ c.loop-x.invariant said

pub returns : goal.returns
unfolding arrivals_fit
returns c =
    let e : c.loop-x.x-index ≡ c.args.count = omega arith in
    let all : every c.args.count (λ k. fits arrival_limit (arrival_in c.args.given.now k)) ≡ true = rw e at c.loop-x.invariant in
    let long : eqb (length c.args.given.now) c.args.count ≡ true = T_true {b = eqb (length c.args.given.now) c.args.count} (eq→eqb _ _ c.if-given-count.false) in
    simp (long, all)
