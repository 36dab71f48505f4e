use Rattle.std.proofs.Common.{◌≡◌, ◌≢◌, T, ℤ, ◌-ℤ◌, w64, to_z, of_z, Ok, Some, ap, ap₂, sym, ◌∙◌, rules, FitsSigned}
use Rattle.std.proofs.lemmas.Int.{to_z-of_z}
use Rattle.laws.proofs.Signed.{handed}
use Rattle.timing.specs.Limits.{arrival_limit, absent_wide, fits}
use Rattle.timing.specs.Table.{read_cell}
use Rattle.timing.proofs.Table.{read_absent, read_at}
use Rattle.plans.proofs.DifferenceCells.{eq_z_same, eq_z_other, neither, number_bounds, difference_fits}
use Rattle.plans.proofs.common.seen_next.Goals as goal
use Rattle.plans.proofs.common.seen_next.Goals.{then-x-eq-ABSENT_WIDE-via-then-x-eq-ABSENT_WIDE, then-x-eq-ABSENT_WIDE-via-else-x-eq-ABSENT_WIDE+then-y-eq-ABSENT_WIDE}

pub returns-then-x-y : goal.returns-then-x-y
returns-then-x-y c =
    let same : c.args.x ≡ c.args.y = search rules in
    elim c.then-x-eq-ABSENT_WIDE.branch [
      | then-x-eq-ABSENT_WIDE-via-then-x-eq-ABSENT_WIDE w ↦
          let x : c.args.x ≡ absent_wide = search rules in
          simp (read_absent absent_wide c.args.x x, read_absent absent_wide c.args.y (sym same ∙ x)) (neither c.args.seen)
      | then-x-eq-ABSENT_WIDE-via-else-x-eq-ABSENT_WIDE+then-y-eq-ABSENT_WIDE w ↦
          let y : c.args.y ≡ absent_wide = search rules in
          simp (read_absent absent_wide c.args.x (same ∙ y), read_absent absent_wide c.args.y y) (neither c.args.seen)
    ]

pub returns-else-x-y : goal.returns-else-x-y
returns-else-x-y c =
    let other : c.args.x ≢ c.args.y = search rules in
    elim c.then-x-eq-ABSENT_WIDE.branch [
      | then-x-eq-ABSENT_WIDE-via-then-x-eq-ABSENT_WIDE w ↦
          let x : c.args.x ≡ absent_wide = search rules in
          simp (read_absent absent_wide c.args.x x, read_at absent_wide c.args.y (λ y. other (x ∙ sym y)))
      | then-x-eq-ABSENT_WIDE-via-else-x-eq-ABSENT_WIDE+then-y-eq-ABSENT_WIDE w ↦
          let y : c.args.y ≡ absent_wide = search rules in
          simp (read_at absent_wide c.args.x (λ x. other (x ∙ sym y)), read_absent absent_wide c.args.y y)
    ]

-- both are joined
module _ {x y : ℤ} (fx : FitsSigned w64 x) (fy : FitsSigned w64 y) (near_x : T (fits arrival_limit (read_cell absent_wide x))) (near_y : T (fits arrival_limit (read_cell absent_wide y))) (x_there : x ≢ absent_wide) (y_there : y ≢ absent_wide) where
  fit : FitsSigned w64 (y -ℤ x)
  fit = difference_fits (number_bounds near_x x_there) (number_bounds near_y y_there)

  d_is : to_z w64 (of_z w64 (to_z w64 (of_z w64 y) -ℤ to_z w64 (of_z w64 x))) ≡ y -ℤ x
  d_is = handed w64 (ap₂ ◌-ℤ◌ (to_z-of_z w64 y fy) (to_z-of_z w64 x fx)) fit

pub overflow_sub-d : goal.overflow_sub-d
overflow_sub-d c =
    let x : c.args.x ≢ absent_wide = search rules in
    let y : c.args.y ≢ absent_wide = search rules in
    rw (to_z-of_z w64 c.args.y c.ranges.y, to_z-of_z w64 c.args.x c.ranges.x) (fit c.ranges.x c.ranges.y c.requires.x_fits c.requires.y_fits x y)

pub returns-in-Some : goal.returns-in-Some
returns-in-Some c =
    let x : c.args.x ≢ absent_wide = search rules in
    let y : c.args.y ≢ absent_wide = search rules in
    let q : c.args.y -ℤ c.args.x ≢ c.in-Some.e = λ q. c.if-d-e.true (ap (of_z w64) (ap₂ ◌-ℤ◌ (to_z-of_z w64 c.args.y c.ranges.y) (to_z-of_z w64 c.args.x c.ranges.x) ∙ q)) in
    simp (read_at absent_wide c.args.x x, read_at absent_wide c.args.y y, c.in-Some.is, eq_z_other q)

pub returns-in_default : goal.returns-in_default
returns-in_default c =
    let x : c.args.x ≢ absent_wide = search rules in
    let y : c.args.y ≢ absent_wide = search rules in
    let e : to_z w64 (of_z w64 c.in-Some.e) ≡ c.in-Some.e = search rules in
    let d = d_is c.ranges.x c.ranges.y c.requires.x_fits c.requires.y_fits x y in
    let q : c.args.y -ℤ c.args.x ≡ c.in-Some.e = sym d ∙ ap (to_z w64) c.if-d-e.false ∙ e in
    simp (read_at absent_wide c.args.x x, read_at absent_wide c.args.y y, c.in-Some.is, eq_z_same q) (ap (λ (z : ℤ). Ok (Some z)) (d ∙ q))

pub returns-in_default-2 : goal.returns-in_default-2
returns-in_default-2 c =
    let x : c.args.x ≢ absent_wide = search rules in
    let y : c.args.y ≢ absent_wide = search rules in
    simp (d_is c.ranges.x c.ranges.y c.requires.x_fits c.requires.y_fits x y, read_at absent_wide c.args.x x, read_at absent_wide c.args.y y, c.in_default.is)
