use Rattle.std.proofs.Common.{◌≡◌, ◌+ℤ◌, to_z, of_z, arith}
use Rattle.std.specs.Int.{int_max}
use Rattle.laws.proofs.Signed.{widens}
use Rattle.paths.proofs.Later.{sum_fits, later_is}
use Rattle.std.proofs.Common.{ap, sym, ◌∙◌, w64}
use Rattle.std.proofs.lemmas.Int.{to_z-of_z}
use mir.Facts.{sfits_lit}
use Rattle.laws.proofs.Signed.{same_bits, other_bits}
use Rattle.graph.specs.Delay.{Delay, ◌⋓◌, ◌⊕◌}
use Rattle.graph.proofs.Delay.{⋓-absent}
use Rattle.timing.specs.Limits.{absent_cell, absent_wide}
use Rattle.timing.specs.Table.{read_cell}
use Rattle.timing.proofs.Table.{read_absent}
use Rattle.paths.proofs.Propagating.{reached}
use Rattle.paths.proofs.margins.later.Goals as goal

pub returns-then-missing : goal.returns-then-missing
returns-then-missing c =
    ap (read_cell absent_wide) (to_z-of_z w64 c.args.best c.ranges.best)
    ∙ sym (ap (λ (d : Delay). read_cell absent_wide c.args.best ⋓ (d ⊕ read_cell absent_cell c.args.cell)) (read_absent absent_wide c.args.a (same_bits {w = w64} {b = absent_wide} c.ranges.a (sfits_lit tt) c.if-missing.true)) ∙ ⋓-absent (read_cell absent_wide c.args.best))

pub overflow_add-a : goal.overflow_add-a
overflow_add-a c =
    let there = reached c.args.a (other_bits w64 c.if-missing.false) c.requires.a_fits in
    let f = sum_fits c.args.a c.args.cell there c.requires.cell_fits c.requires.cell_nonzero in
    grind (arith, to_z-of_z, widens)

pub returns : goal.returns
returns c =
    let there = reached c.args.a (other_bits w64 c.if-missing.false) c.requires.a_fits in
    let f = sum_fits c.args.a c.args.cell there c.requires.cell_fits c.requires.cell_nonzero in
    let e : to_z w64 (of_z w64 c.max.result) ≡ int_max c.args.best (c.args.a +ℤ c.args.cell) = grind (arith, to_z-of_z, widens) in
    ap (read_cell absent_wide) e ∙ later_is c.args.a c.args.cell c.args.best there c.requires.cell_fits c.requires.cell_nonzero
