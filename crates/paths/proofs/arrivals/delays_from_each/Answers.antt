use Rattle.std.proofs.Common.{◌≡◌, ◌+◌, ◌*◌, ◌<◌, ◌≤◌, ℕ, List, length, ℤ, sym, ap, ◌∙◌, arith}
use mathlib.Core.Path.{subst}
use Rattle.graph.specs.Graph.{propagated}
use Rattle.timing.specs.Table.{graph_of}
use Rattle.timing.specs.Delays.{arrival_in}
use Rattle.paths.specs.declared.board.Board.{Board}
use Rattle.paths.specs.Arrivals.{lane, filled, stored, only_at, Starts}
use Rattle.paths.specs.Checked.{Passable}
use Rattle.paths.proofs.Lanes.{lane_room, lane-length}
use Rattle.paths.proofs.Tables.{walk_passable}
use Rattle.paths.proofs.Starting.{one_started, one_propagated}
use Rattle.paths.proofs.arrivals.delays_from_each.Goals as goal

-- a lane in which a signal has started
started : {b : Board} {t : List ℤ} {o : List ℕ} → Passable b t o → (lanes i l : ℕ) → i + lanes ≤ b.vertices → l < lanes → (f f' : List ℤ) → b.vertices * lanes ≤ length f
    → lane b.vertices l f' ≡ stored b.vertices (only_at (i + l)) (lane b.vertices l f) → Starts b.vertices (lane b.vertices l f')
started {b} {t} {o} P lanes i l h m f f' room e =
    subst (Starts b.vertices) (sym e) (one_started P (i + l) (omega arith) (lane b.vertices l f) (omega (arith, lane-length b.vertices l f (lane_room b.vertices l lanes f m room))))

pub propagate_each-requires-clause-starts : goal.propagate_each-requires-clause-starts
propagate_each-requires-clause-starts g c l m =
    started (walk_passable c.args.walk.now) g.row.LANES c.args.i l c.requires.i_bound m c.args.f.now c.start_each.new.f c.requires.room (c.start_each.ensures.each_lane l m)

pub returns-clause-delay_lanes : goal.returns-clause-delay_lanes
returns-clause-delay_lanes g c l m =
    let w = c.args.walk.now in
    let n = w.table.board.vertices in
    c.propagate_each.ensures.each_lane l m
    ∙ ap (λ (x : List ℤ). filled n (propagated n (graph_of n w.table.cells.now) (arrival_in x)) x) (c.start_each.ensures.each_lane l m)
    ∙ one_propagated (walk_passable w) (c.args.i + l) (omega (arith, c.requires.i_bound)) (lane n l c.args.f.now) (omega (arith, lane-length n l c.args.f.now (lane_room n l g.row.LANES c.args.f.now m c.requires.room)))

pub returns-clause-past : goal.returns-clause-past
returns-clause-past g c = c.propagate_each.ensures.past ∙ c.start_each.ensures.past
