use Rattle.std.proofs.Common.{◌≡◌, ◌+◌, ℕ, true, false, get_or, pos, refl, sym, ap, ◌∙◌, subst, List, length, ℤ, ◌+ℤ◌, w64, to_z, of_z, rules, arith}
use mir.Facts.{to_z-of_z}
use Rattle.laws.specs.Integers.{eq_z}
use Rattle.laws.specs.Bounded.{member}
use Rattle.laws.specs.Lists.{tabulate}
use Rattle.laws.proofs.Booleans.{is_true}
use Rattle.timing.specs.Limits.{absent_cell}
use Rattle.stars.specs.StarCells.{meets, cleared_cell}
use Rattle.stars.proofs.Members.{below_at, member_at}
use Rattle.stars.proofs.Rewriting.{Rewriting, rewriting_start, rewriting_here, rewriting_set, rewriting_keep, rewriting_end}
use Rattle.stars.proofs.RowCells.{cleared, kept, cleared_other}
use Rattle.stars.proofs.star.CentreArcs.clear_covered.Goals as goal
use Rattle.stars.proofs.star.CentreArcs.clear_covered.Goals.{then-is_covered, else-is_covered}

pub loop-t-init : goal.loop-t-init
loop-t-init c =
    let row = c.args.row.now in
    let first = c.args.self.now.first.now in
    let ts = c.args.self.now.targets.now in
    let e = to_z w64 (of_z w64 c.args.e) in
    rewriting_start ts (λ v. get_or row v (pos 0)) (cleared_cell row first ts e) row (λ v. refl) (λ v. cleared_other row first ts v e)

pub loop-t-preserved : goal.loop-t-preserved
unfolding meets
loop-t-preserved c =
    let row = c.args.row.now in
    let first = c.args.self.now.first.now in
    let ts = c.args.self.now.targets.now in
    let e = to_z w64 (of_z w64 c.args.e) in
    let l = c.loop-t in
    let i = l.t-index in
    let t = get_or ts i 0 in
    let old : ℕ → ℤ = λ v. get_or row v (pos 0) in
    let new = cleared_cell row first ts e in
    let apart = c.args.self.now.targets_set.apart in
    let here = rewriting_here ts old new i c.loop-t-test.true l.row l.invariant in
    elim c.if-is_covered.branch [
      | then-is_covered w ↦
          let seen : eq_z (get_or l.row t (pos 0)) (e +ℤ get_or first t (pos 0)) ≡ true = search rules in
          let said : meets row first e t ≡ true = ap (λ (x : ℤ). eq_z x (e +ℤ get_or first t (pos 0))) (sym here) ∙ seen in
          subst (λ (r : List ℤ). Rewriting ts old new r (i + 1)) (sym w.row-is)
          (rewriting_set ts old new i c.loop-t-test.true l.row l.invariant apart (omega (arith, below_at _ ts c.requires i c.loop-t-test.true)) absent_cell
          (sym (cleared row first ts t e (is_true (member t ts) (member_at ts i c.loop-t-test.true)) said)))
      | else-is_covered w ↦
          let seen : eq_z (get_or l.row t (pos 0)) (e +ℤ get_or first t (pos 0)) ≡ false = search rules in
          let said : meets row first e t ≡ false = ap (λ (x : ℤ). eq_z x (e +ℤ get_or first t (pos 0))) (sym here) ∙ seen in
          subst (λ (r : List ℤ). Rewriting ts old new r (i + 1)) (sym w.row-is)
          (rewriting_keep ts old new i c.loop-t-test.true l.row l.invariant apart (kept row first ts t e said))
    ]

pub returns : goal.returns
returns c =
    let row = c.args.row.now in
    let ts = c.args.self.now.targets.now in
    let l = c.loop-t in
    rewriting_end ts (λ v. get_or row v (pos 0)) (cleared_cell row c.args.self.now.first.now ts (to_z w64 (of_z w64 c.args.e))) l.t-index (omega arith) l.row (length row) (omega arith) l.invariant
    ∙ ap (λ (z : ℤ). tabulate (length row) (cleared_cell row c.args.self.now.first.now ts z)) (to_z-of_z c.ranges.e)
