use Rattle.paths.specs.Tables.{timing_graph}
use Rattle.plans.proofs.SoleDrivers.{Sought}
use Rattle.plans.proofs.share_inputs.sole_drivers.Given as goal

abbrev pub invariant-loop-u : goal.invariant-loop-u
invariant-loop-u l =
    let b = l.table.board in
    Sought b.inputs b.outputs b.vertices (timing_graph l.table) l.u l.drivers
