use Rattle.std.proofs.Common.{◌≡◌, ℕ, Bool, drop}
use Rattle.laws.specs.Bounded.{each}
use Rattle.graph.specs.Delay.{present}
use Rattle.paths.specs.Board.{graph_in}
use Rattle.stars.proofs.star.all_joined.Given as goal

abbrev pub invariant-loop-s : goal.invariant-loop-s
invariant-loop-s l =
    let f : ℕ → Bool = λ s. each l.targets (λ t. present (graph_in l.fn.table.board l.table.cells.now s t)) in
    each (drop l.s-index l.sources) f ≡ each l.sources f
