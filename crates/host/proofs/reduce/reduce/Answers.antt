use Rattle.std.proofs.Common.{◌≡◌, ap, ◌∙◌, ℕ, pos, w64, to_z, of_z, rules, arith}
use Rattle.std.proofs.lemmas.List.{length-replicate}
use Rattle.timing.specs.Refusal.{Verdict}
use Rattle.reduction.specs.Outcome.{Reduced}
use Rattle.reduction.specs.Steps.{step_call}
use Rattle.host.specs.Runs.{whole_cells, cells_of}
use Rattle.host.specs.Answers.{step_answer, table_bytes}
use Rattle.host.proofs.Shown.{part_shown}
use Rattle.host.proofs.Stepping.{step_room}
use Rattle.host.proofs.reduce.reduce.Goals as goal

pub reduce_in-requires : goal.reduce_in-requires
reduce_in-requires g c = part_shown _ _ (length-replicate 8100 (pos 0)) _ c.shown-count.ensures

pub returns : goal.returns
returns g c =
    let a = c.args in
    let value : to_z w64 (of_z w64 c.reduce_in.result) ≡ c.reduce_in.result = search rules in
    let step = g.S.Step.meaning a.step.now in
    let cells = cells_of 4 a.table.now in
    let same = ap (λ (k : ℕ). step_call a.inputs a.outputs a.vertices k step cells) (part_shown _ _ (length-replicate 360 (pos 0)) _ (c.min-room.ensures, omega (arith, c.min-room.ensures))) ∙ step_room a.inputs a.outputs a.vertices (whole_cells 8 a.scratch.now) step cells in
    record {
      value = value ∙ c.reduce_in.ensures.value ∙ ap step_answer same;
      table_after = c.reduce_in.ensures.table_after ∙ ap (λ (v : Verdict Reduced). table_bytes v a.table.now) same;
    }
