use Rattle.std.proofs.Common.{◌≡◌, Some, sym, ◌∙◌, subst}
use Rattle.sets.specs.declared.Set.{Set}
use Rattle.plans.specs.Sharing.{SoleDrivers}
use Rattle.plans.proofs.share_inputs.leaves_undriven.Goals as goal
use Rattle.plans.proofs.share_inputs.leaves_undriven.Goals.{In-Some, then-is_none, else-is_none}

some_same : {x y : Set} → Some x ≡ Some y → x ≡ y
some_same e = cc

-- the set is there
made : (c : In-Some) → SoleDrivers c.args.table.now.board c.args.table.now.cells.now c.in-Some.made
made c = elim c.if-is_none.branch [
  | then-is_none w ↦ subst (SoleDrivers c.args.table.now.board c.args.table.now.cells.now) (some_same (sym w.drivers-is ∙ c.in-Some.is)) w.sole_drivers.ensures
  | else-is_none w ↦ rw (sym w.drivers-is ∙ c.in-Some.is) at c.requires.drivers_of
]

pub returns-in-Some-clause-leaves_value : goal.returns-in-Some-clause-leaves_value
returns-in-Some-clause-leaves_value c = c.has.ensures ∙ made (goal.at.returns-in-Some-clause-leaves_value c).In-Some c.args.b c.requires.b_lt_vertices
