use Rattle.std.proofs.Common.{◌≡◌, T, ap, ap₂, ◌∙◌, get_or, length, ℤ, pos, neg_ℤ, ◌-ℤ◌, ◌≤ℤ◌, w32, to_z, of_z, FitsSigned}
use Rattle.std.specs.Int.Signed.{le_z}
use Rattle.std.proofs.lemmas.Int.{to_z-of_z}
use Rattle.laws.specs.Bounded.{every}
use Rattle.laws.proofs.Booleans.{true_is}
use Rattle.laws.proofs.Bounded.{every_at, every_same}
use Rattle.laws.proofs.Signed.{handed}
use Rattle.graph.specs.Delay.{at}
use Rattle.timing.specs.Limits.{delay_limit, fits}
use Rattle.paths.specs.Cells.{cell_at, between}
use Rattle.plans.proofs.SumCells.{between-sum, upto_sum, room-below, room_above}
use Rattle.plans.proofs.shrink.row_sums_fit.Goals as goal

-- a difference as the code has it
part : (a x : ℤ) → FitsSigned w32 a → x -ℤ to_z w32 (of_z w32 a) ≡ x -ℤ a
part a x f = ap (λ (z : ℤ). x -ℤ z) (to_z-of_z w32 a f)

-- the ends as the code has them
low_is : (a : ℤ) → FitsSigned w32 a → T (fits delay_limit (at a)) → to_z w32 (of_z w32 (neg_ℤ (pos delay_limit) -ℤ to_z w32 (of_z w32 a))) ≡ neg_ℤ (pos delay_limit) -ℤ a
low_is a f t = handed w32 (part a (neg_ℤ (pos delay_limit)) f) (room-below a t)

high_is : (a : ℤ) → FitsSigned w32 a → T (fits delay_limit (at a)) → to_z w32 (of_z w32 (pos delay_limit -ℤ to_z w32 (of_z w32 a))) ≡ pos delay_limit -ℤ a
high_is a f t = handed w32 (part a (pos delay_limit) f) (room_above a t)

pub returns-then-into-ge0 : goal.returns-then-into-ge0
returns-then-into-ge0 c =
    let a = c.args.into in
    let via = c.args.via.now in
    let n = length via in
    let positive : pos 0 ≤ℤ a = record { le = true_is (rw (to_z-of_z w32 a c.ranges.into) at c.if-into-ge0.true) } in
    c.row_upto.ensures
    ∙ every_same n _ _
    (λ v l. ap (λ (y : ℤ). le_z (get_or via v (pos 0)) y) (high_is a c.ranges.into c.requires.into_fits)
    ∙ upto_sum a (get_or via v (pos 0)) positive c.requires.into_fits (every_at n (λ t. fits delay_limit (cell_at via t)) c.requires.via_fits v l))

pub returns : goal.returns
returns c =
    let a = c.args.into in
    let via = c.args.via.now in
    c.row_within.ensures
    ∙ ap₂ (λ (x y : ℤ). every (length via) (λ v. between x y (cell_at via v))) (low_is a c.ranges.into c.requires.into_fits) (high_is a c.ranges.into c.requires.into_fits)
    ∙ every_same (length via) _ _ (λ v _. between-sum delay_limit a (cell_at via v))
