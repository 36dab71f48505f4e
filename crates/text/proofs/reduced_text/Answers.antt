use Rattle.std.proofs.Common.{◌≡◌, List, ℕ, ap, arith, ◌∙◌, rules, length}
use Rattle.format.specs.Text.{reduced_text}
use Rattle.paths.specs.Tables.{table_sizes}
use Rattle.paths.proofs.Tables.{checked_table}
use Rattle.records.specs.Appending.{Appends}
use Rattle.records.proofs.Appending.{appends_by}
use Rattle.text.proofs.TextLengths.{reduced_most}
use Rattle.text.proofs.reduced_text.Goals as goal

pub put_reduced-requires-clause-room : goal.put_reduced-requires-clause-room
put_reduced-requires-clause-room c =
    let r = c.requires in omega (arith, ap length c.new-w.ensures.bytes, reduced_most (checked_table c.args.table.now r.sound) c.args.ran.steps c.args.ran.arcs r.steps_bound r.arcs_bound)

pub returns-clause-appends : goal.returns-clause-appends
returns-clause-appends c =
    let a = c.args in
    let p = c.put_reduced.ensures in
    let run = p.same_run ∙ c.new-w.ensures.same_run in
    let left : (after : List ℕ) → after ≡ c.put_reduced.new.w.out.now → Appends (reduced_text (table_sizes a.table.now) (record { table = a.table.now.cells.now; steps = a.ran.steps; arcs_left = a.ran.arcs })) a.out.now 0 after c.put_reduced.new.w.at =
    λ after q. appends_by p c.new-w.ensures.bytes c.new-w.ensures.at q in
    search (rules, left)

pub returns-clause-upper_bound : goal.returns-clause-upper_bound
returns-clause-upper_bound c =
    let r = c.requires in omega (arith, reduced_most (checked_table c.args.table.now r.sound) c.args.ran.steps c.args.ran.arcs r.steps_bound r.arcs_bound)
