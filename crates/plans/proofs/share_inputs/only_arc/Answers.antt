use Rattle.std.proofs.Common.{List, ℤ, pos, length, get_or, ap, ◌∙◌, w32}
use Rattle.std.proofs.lemmas.Int.{to_z-of_z}
use Rattle.laws.specs.Lists.{tabulate}
use Rattle.laws.proofs.Lists.{length-tabulate, get_d_tabulate}
use Rattle.timing.specs.Limits.{absent_cell}
use Rattle.plans.specs.SharedRow.{only_arc}
use Rattle.plans.proofs.SharedRows.{set_cell}
use Rattle.plans.proofs.share_inputs.only_arc.Goals as goal

pub returns : goal.returns
returns c =
    let n = length c.args.row.now in
    set_cell c.clear.new.row n c.args.k _ (λ _. absent_cell) (ap length c.clear.ensures ∙ length-tabulate (λ _. absent_cell) n) c.requires
    (λ t l. ap (λ (r : List ℤ). get_or r t (pos 0)) c.clear.ensures ∙ get_d_tabulate (λ _. absent_cell) n t (pos 0) l)
    ∙ ap (λ (d : ℤ). tabulate n (only_arc c.args.k d)) (to_z-of_z w32 c.args.d c.ranges.d)
