use Rattle.std.proofs.Common.{ℕ, pos, length, get_or, arith}
use Rattle.std.proofs.lemmas.Grind.{common_steps}
use Rattle.laws.proofs.Lists.{is_tabulate}
use Rattle.plans.proofs.share_inputs.take_over.Goals as goal

pub returns : goal.returns
returns c =
    is_tabulate (pos 0) c.copy_from_slice.new.self (length c.args.row.now) (λ (t : ℕ). get_or c.args.via.now t (pos 0)) c.copy_from_slice.ensures.len
    (λ t l. grind (arith, common_steps, c.copy_from_slice.ensures.after))
