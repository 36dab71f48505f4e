use Rattle.run.proofs.inputs.InputsSide.begin.Goals as goal

pub returns : goal.returns
returns c = (c.fresh_number-free.ensures, tt)
