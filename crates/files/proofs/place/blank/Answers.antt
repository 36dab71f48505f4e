use Rattle.std.proofs.Common.{ap, ◌∙◌, ℕ, ◌*◌, List, ◌++◌, drop, ℤ}
use lib.Seq.{length-take-le}
use Rattle.laws.specs.Lists.{tabulate}
use Rattle.timing.specs.Limits.{absent_cell}
use Rattle.files.proofs.TableGraphs.{blanked}
use Rattle.files.proofs.place.blank.Goals as goal

pub returns : goal.returns
returns c =
    let n = c.args.n in
    let t = c.args.table.now in
    let long = length-take-le (n * n) t c.requires.n_in_bounds in
    ap (λ (l : List ℤ). l ++ drop (n * n) t) (c.clear.ensures ∙ ap (λ (k : ℕ). tabulate k (λ _. absent_cell)) long) ∙ blanked n t c.requires.n_in_bounds
