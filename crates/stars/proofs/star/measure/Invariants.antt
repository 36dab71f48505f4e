use Rattle.std.proofs.Common.{◌≡◌, Bool, cond, ◌&&◌, ℕ, ◌+◌, ◌*◌, ◌≤◌, drop}
use Rattle.laws.specs.Bounded.{sum, each}
use Rattle.timing.specs.Limits.{max_vertices, delay_limit, fits}
use Rattle.paths.specs.Board.{graph_in}
use Rattle.reduction.specs.Star.{to_centre, covered}
use Rattle.stars.specs.Members.{sum_over}
use Rattle.stars.proofs.star.measure.Given as goal

abbrev pub invariant-loop-s : goal.invariant-loop-s
invariant-loop-s l =
    let saved : ℕ → ℕ = λ s. sum l.fn.table.board.vertices (λ t. cond (covered l.sources l.targets (graph_in l.fn.table.board l.table.cells.now) s t) 1 0) in
    let near : ℕ → Bool = λ s. fits delay_limit (to_centre l.sources l.targets (graph_in l.fn.table.board l.table.cells.now) s) in
    record {
      few : l.covered ≤ max_vertices * l.s-index;
      so_far : l.covered + sum_over (drop l.s-index l.sources) saved ≡ sum_over l.sources saved;
      fit : (l.fits && each (drop l.s-index l.sources) near) ≡ each l.sources near;
    }
