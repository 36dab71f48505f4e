use Rattle.std.proofs.Common.{ap, sym, ◌∙◌, w64}
use Rattle.std.proofs.lemmas.Int.{to_z-of_z}
use Rattle.std.proofs.lemmas.Bool.{eq-eqb}
use mir.Facts.{sfits_lit}
use Rattle.laws.proofs.Signed.{same_bits, other_bits}
use Rattle.timing.specs.Limits.{arrival_limit, absent_wide, fits}
use Rattle.timing.proofs.Table.{read_absent, read_at}
use Rattle.paths.proofs.queries.arrival_fits.Goals as goal

pub returns-then-x-eq-ABSENT_WIDE : goal.returns-then-x-eq-ABSENT_WIDE
returns-then-x-eq-ABSENT_WIDE c =
    eq-eqb _ _ c.if-x-eq-ABSENT_WIDE.true ∙ sym (ap (fits arrival_limit) (read_absent absent_wide c.args.x (same_bits {w = w64} {b = absent_wide} c.ranges.x (sfits_lit tt) c.if-x-eq-ABSENT_WIDE.true)))

pub returns-then-x-ge-MIN_ARRIVAL : goal.returns-then-x-ge-MIN_ARRIVAL
returns-then-x-ge-MIN_ARRIVAL c =
    let e = to_z-of_z w64 c.args.x c.ranges.x in
    simp (e, read_at absent_wide c.args.x (other_bits w64 c.if-x-eq-ABSENT_WIDE.false), rw e at c.if-x-ge-MIN_ARRIVAL.true)

pub returns-else-x-ge-MIN_ARRIVAL : goal.returns-else-x-ge-MIN_ARRIVAL
returns-else-x-ge-MIN_ARRIVAL c =
    let e = to_z-of_z w64 c.args.x c.ranges.x in
    simp (e, read_at absent_wide c.args.x (other_bits w64 c.if-x-eq-ABSENT_WIDE.false), rw e at c.if-x-ge-MIN_ARRIVAL.false)
