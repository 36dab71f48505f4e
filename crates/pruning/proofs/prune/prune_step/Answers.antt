use Rattle.std.proofs.Common.{false, length-take, ◌∙◌, arith}
use Rattle.std.proofs.lemmas.List.{get_or-take, get_or-replicate}
use Rattle.paths.proofs.Sizes.{board_area}
use Rattle.pruning.proofs.prune.prune_step.Goals as goal

pub prune_in-requires-clause-unmarked : goal.prune_in-requires-clause-unmarked
prune_in-requires-clause-unmarked c =
    let few = board_area c.args.board in
    record {
      room = simp length-take (omega (arith, few, c.cells-size.ensures));
      off = λ x h. get_or-take c.cells-size.result _ x false (omega (arith, h, c.cells-size.ensures)) ∙ get_or-replicate 8100 x false false (omega (arith, h, few));
    }
