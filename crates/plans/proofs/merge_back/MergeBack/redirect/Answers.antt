use Rattle.std.proofs.Common.{◌≡◌, ap, ◌∙◌, w32, to_z, of_z, rules}
use Rattle.std.proofs.lemmas.Int.{to_z-of_z}
use Rattle.graph.specs.Delay.{◌⊕◌}
use Rattle.timing.specs.Limits.{absent_cell}
use Rattle.timing.specs.Table.{read_cell}
use Rattle.plans.proofs.LoweredSums.{delay_cell}
use Rattle.plans.proofs.MergedRows.{redirected_after}
use Rattle.plans.proofs.merge_back.MergeBack.redirect.Goals as goal

pub sum-requires : goal.sum-requires
sum-requires c =
    let x = c.args.self.now in
    let d : to_z w32 (of_z w32 x.d) ≡ x.d = search rules in
    simp (to_z-of_z w32 c.args.into c.ranges.into, d, delay_cell x.d c.requires.legal) c.requires.sum_fits

pub returns : goal.returns
returns c =
    let x = c.args.self.now in
    let said : read_cell absent_cell (to_z w32 (of_z w32 c.sum.result)) ≡ read_cell absent_cell c.args.into ⊕ read_cell absent_cell x.d = search rules in
    redirected_after c.args.row.now (read_cell absent_cell c.args.into) x.v x.o x.d _ c.requires.from_inside c.requires.to_inside
    (said ∙ ap (λ y. read_cell absent_cell c.args.into ⊕ y) (delay_cell x.d c.requires.legal))
