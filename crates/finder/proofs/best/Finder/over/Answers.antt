use Rattle.finder.proofs.best.Finder.over.Goals as goal

pub arc_sets-requires-clause-none : goal.arc_sets-requires-clause-none
arc_sets-requires-clause-none c = c.requires.none
