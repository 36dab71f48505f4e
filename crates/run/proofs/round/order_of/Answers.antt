use Rattle.std.proofs.Common.{Option, Some, None, is_some, refl, sym, subst}
use Rattle.std.proofs.Math.Dec.{T}
use Rattle.std.specs.Option.{IsSome}
use Rattle.timing.specs.Table.{graph_of}
use Rattle.timing.proofs.Checks.{acyclic_no_cycle}
use Rattle.run.proofs.round.order_of.Goals as goal

there : {A : Type 0} (r : Option A) → T (is_some r) → IsSome r
there (Some a) t = refl
there None t = absurd t

pub unwrap-requires : goal.unwrap-requires
unwrap-requires c =
    let n = c.args.table.now.board.vertices in
    there _ (subst T (sym c.topological_order.ensures.answer) (acyclic_no_cycle n (graph_of n c.args.table.now.cells.now) c.requires.checked.sound.acyclic))

pub returns-in-None : goal.returns-in-None
returns-in-None c = record { checked = c.requires.checked; order = c.topological_order.ensures.order c.unwrap.result c.unwrap.ensures }
