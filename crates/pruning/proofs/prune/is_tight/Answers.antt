use Rattle.std.proofs.Common.{◌≡◌, ap, ◌∙◌, ℤ, ◌+ℤ◌, w64, to_z, of_z, eqb, rules}
use Rattle.pruning.proofs.TightCells.{tight_bits}
use Rattle.pruning.proofs.prune.is_tight.Goals as goal

pub returns : goal.returns
returns c =
    let a = c.args in
    let sum : to_z w64 (of_z w64 a.a) +ℤ to_z w64 (of_z w64 c.from.result) ≡ a.a +ℤ a.cell = search rules in
    ap (λ (z : ℤ). eqb (of_z w64 a.w) (of_z w64 z)) sum ∙ tight_bits a.a a.cell a.w c.requires.reached c.requires.cell_in_range c.requires.cell_nonzero c.ranges.w
