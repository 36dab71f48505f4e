use Rattle.std.proofs.Common.{Option, ap, sym, ◌∙◌}
use Rattle.finder.specs.Finding.{found, offered_on}
use Rattle.finder.proofs.Choosing.{chosen, best_first, best_next, best_last}
use Rattle.finder.proofs.best.Finder.best.Goals as goal
use Rattle.finder.proofs.best.Finder.best.Goals.{in-Some, in_default}

pub loop-a-init : goal.loop-a-init
loop-a-init c = let x = c.args.self.now.table in best_first x.board x.cells.now

pub loop-a-preserved : goal.loop-a-preserved
loop-a-preserved c =
    let x = c.args.self.now.table in
    let l = c.loop-a in
    let next = best_next x.board x.cells.now l.a (found l.best) l.invariant c.saving.result (c.saving.ensures ∙ ap (offered_on x.board x.cells.now l.a) c.saved_by.ensures) in
    elim c.match-saving.branch [
      | in-Some w ↦ rw w.best-is (sym (ap (λ (r : Option _). chosen l.a r (found l.best)) w.in-Some.is) ∙ next)
      | in_default w ↦ rw w.best-is (sym (ap (λ (r : Option _). chosen l.a r (found l.best)) w.in_default.is) ∙ next)
    ]

pub returns : goal.returns
returns c = let x = c.args.self.now.table in c.loop-a.invariant ∙ best_last x.board x.cells.now c.loop-a.a c.loop-a.auto.a-end c.loop-a-test.false
