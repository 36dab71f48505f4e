-- The walks from a vertex are far from the ends of their 64 bits, so that each is read as it was written.
use mathlib.Core.Path.{◌≡◌}
use mathlib.Core.List.{List}
use Prim.Native.Nat.{ℕ, ◌<◌}
use native.Mathlib.Omega.{arith}
use lib.Dec.{T}
use lib.IntN.{ℤ}
use Rattle.graph.specs.Delay.{Delay}
use Rattle.graph.specs.Graph.{longest, walk}
use Rattle.graph.proofs.Span.{span_le}
use Rattle.timing.specs.Limits.{arrival_limit, absent_wide, fits}
use Rattle.timing.specs.Table.{read_cell, write_cell, graph_of}
use Rattle.timing.proofs.Limits.{fits_span, span_fits}
use Rattle.timing.proofs.Table.{read_held}
use Rattle.paths.specs.declared.board.Board.{Board}
use Rattle.paths.specs.Arrivals.{reached_limit}
use Rattle.paths.specs.Checked.{Passable}
use Rattle.paths.proofs.PathDelays.{walk_near}

pub walk_far : {b : Board} {t : List ℤ} {o : List ℕ} → Passable b t o → (i : ℕ) → i < b.vertices → (v : ℕ) → v < b.vertices → T (fits reached_limit (walk (longest (graph_of b.vertices t) b.vertices) i v))
walk_far {b} {t} p i hi v h =
    let w = walk (longest (graph_of b.vertices t) b.vertices) i v in
    span_fits reached_limit w (span_le arrival_limit reached_limit w (omega arith) (fits_span arrival_limit w (walk_near p i hi v h)))

pub read_far : (d : Delay) → T (fits reached_limit d) → read_cell absent_wide (write_cell absent_wide d) ≡ d
read_far d t = read_held reached_limit (omega arith) d (fits_span reached_limit d t)
