use Rattle.std.proofs.Common.{refl, ◌≡◌, ◌∙◌, neg_ℤ, pos}
use Rattle.laws.proofs.Bounded.{every_same}
use Rattle.graph.specs.Delay.{Delay, absent, at}
use Rattle.timing.specs.Limits.{delay_limit, fits}
use Rattle.paths.specs.Cells.{cell_at, between}
use Rattle.paths.proofs.cells.row_fits.Goals as goal

in_range : (d : Delay) → between (neg_ℤ (pos delay_limit)) (pos delay_limit) d ≡ fits delay_limit d
in_range absent = refl
in_range (at z) = refl

pub returns : goal.returns
returns c = c.row_within.ensures ∙ every_same _ _ _ (λ v _. in_range (cell_at c.args.row.now v))
