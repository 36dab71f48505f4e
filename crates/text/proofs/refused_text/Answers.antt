use Rattle.std.proofs.Common.{◌≡◌, List, ℕ, ap, arith, ◌∙◌, rules, length}
use Rattle.timing.specs.Refusal.{number}
use Rattle.format.specs.Text.{refused_line}
use Rattle.records.specs.Appending.{Appends}
use Rattle.records.proofs.Appending.{puts_same, appends_by}
use Rattle.text.proofs.TextLengths.{refused_most}
use Rattle.text.proofs.refused_text.Goals as goal

pub refused_line-requires-clause-room : goal.refused_line-requires-clause-room
refused_line-requires-clause-room c = omega (arith, ap length c.new-w.ensures.bytes, refused_most c.number.result c.args.fault.at)

pub returns-clause-appends : goal.returns-clause-appends
returns-clause-appends c =
    let p = puts_same (ap (λ (k : ℕ). refused_line k c.args.fault.at) c.number.ensures.0) c.refused_line.ensures in
    let run = p.same_run ∙ c.new-w.ensures.same_run in
    let left : (after : List ℕ) → after ≡ c.refused_line.new.w.out.now → Appends (refused_line (number c.args.fault.refusal) c.args.fault.at) c.args.out.now 0 after c.refused_line.new.w.at =
    λ after q. appends_by p c.new-w.ensures.bytes c.new-w.ensures.at q in
    search (rules, left)

pub returns-clause-upper_bound : goal.returns-clause-upper_bound
returns-clause-upper_bound c = omega (arith, refused_most c.number.result c.args.fault.at)
