use Rattle.std.proofs.Common.{ltb, ◌∙◌, rules, tests}
use Rattle.std.proofs.lemmas.Iterator.{YieldsList-from_slice}
use Rattle.std.proofs.lemmas.Iterator.Search.{all_from_yields_List}
use Rattle.stars.proofs.Members.{below_is}
use Rattle.stars.proofs.star.all_below.Goals as goal

pub returns : goal.returns
returns c =
    let n = c.args.n in
    let xs = c.args.xs.now in
    all_from_yields_List (λ x. ltb x n) _ _ _ c.all.ensures.ran (YieldsList-from_slice xs cc) (λ x b q k. search (rules, tests)) ∙ below_is n xs
