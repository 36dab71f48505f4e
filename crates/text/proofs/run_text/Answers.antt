use Rattle.std.proofs.Common.{ap, ◌∙◌, length}
use Rattle.timing.specs.Refusal.{number}
use Rattle.format.specs.Text.{refused_line}
use Rattle.files.specs.declared.answer.Fault.{Fault}
use Rattle.records.proofs.Appending.{appends_same}
use Rattle.text.proofs.RunTexts.{ran_checked, ran_text}
use Rattle.text.proofs.run_text.Goals as goal

pub invariant_of-left : goal.invariant_of-left
invariant_of-left c =
    let a = c.args in
    record { room = (ran_checked a.board (length a.scratch.now) a.table.now c.run.ensures.runs _ c.in-Ok.is).0.lent }

pub reduced_text-requires-clause-sound : goal.reduced_text-requires-clause-sound
reduced_text-requires-clause-sound c =
    let a = c.args in
    (ran_checked a.board (length a.scratch.now) a.table.now c.run.ensures.runs _ c.in-Ok.is).0.sound

pub reduced_text-requires-clause-steps_bound : goal.reduced_text-requires-clause-steps_bound
reduced_text-requires-clause-steps_bound c =
    let a = c.args in
    (ran_checked a.board (length a.scratch.now) a.table.now c.run.ensures.runs _ c.in-Ok.is).1

pub reduced_text-requires-clause-arcs_bound : goal.reduced_text-requires-clause-arcs_bound
reduced_text-requires-clause-arcs_bound c =
    let a = c.args in
    (ran_checked a.board (length a.scratch.now) a.table.now c.run.ensures.runs _ c.in-Ok.is).2

pub returns-in-Ok-clause-appends : goal.returns-in-Ok-clause-appends
returns-in-Ok-clause-appends c =
    let a = c.args in
    appends_same (ran_text a.board.inputs a.board.outputs a.board.vertices (length a.scratch.now) a.table.now c.run.ensures.runs _ c.in-Ok.is c.requires.scratch_len) c.reduced_text.ensures.appends

pub returns-in-Err-clause-appends : goal.returns-in-Err-clause-appends
returns-in-Err-clause-appends c =
    let a = c.args in
    let told = ap (λ (f : Fault). refused_line (number f.refusal) f.at) c.from.ensures in
    appends_same (told ∙ ran_text a.board.inputs a.board.outputs a.board.vertices (length a.scratch.now) a.table.now c.run.ensures.runs _ c.in-Err.is c.requires.scratch_len) c.refused_text.ensures.appends
