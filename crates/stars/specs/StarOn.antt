-- Document 01's star, at a board's table.
use Rattle.std.specs.Prelude.{Bool, List, ℕ, ℤ}
use Rattle.laws.specs.Bounded.{each}
use Rattle.timing.specs.Limits.{delay_limit, fits}
use Rattle.timing.specs.Refusal.{Verdict}
use Rattle.reduction.specs.Star.{star_verdict, covered_arcs, to_centre}
use Rattle.paths.specs.declared.board.Board.{Board}
use Rattle.paths.specs.Board.{graph_in}
use Rattle.stars.specs.StarReady.{StarReady}

-- its conditions
abbrev pub star_on : Board → List ℤ → List ℕ → List ℕ → ℕ → Verdict (Unit {0})
star_on b t S Ts k = star_verdict b.inputs b.outputs b.vertices S Ts k (graph_in b t)

-- the arcs that it covers, and whether the delays to its centre are in range
abbrev pub covered_on : Board → List ℤ → List ℕ → List ℕ → ℕ
covered_on b t S Ts = covered_arcs b.vertices S Ts (graph_in b t)

abbrev pub centre_fits : Board → List ℤ → List ℕ → List ℕ → Bool
centre_fits b t S Ts = each S (λ s. fits delay_limit (to_centre S Ts (graph_in b t) s))

abbrev pub StarReadyOn : Board → List ℤ → List ℕ → List ℕ → ℕ → Type 0
StarReadyOn b t S Ts k = StarReady b.inputs b.outputs b.vertices S Ts k (graph_in b t)
