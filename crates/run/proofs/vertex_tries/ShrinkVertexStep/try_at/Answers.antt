use Rattle.std.proofs.Common.{sym, ◌∙◌}
use Rattle.run.proofs.LeanRounds.{sink_tries}
use Rattle.run.proofs.vertex_tries.ShrinkVertexStep.try_at.Goals as goal

pub returns-then-fan_out-eq0 : goal.returns-then-fan_out-eq0
returns-then-fan_out-eq0 c =
    sink_tries c.args.board c.args.table.now c.args.v c.requires.checked c.requires.lean_on (sym c.fan_out.ensures ∙ c.if-fan_out-eq0.true)
