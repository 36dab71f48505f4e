use Rattle.std.proofs.Common.{◌<◌, ◌&&◌, ◌||◌, Bool, not, ℕ, eqb, ltb, leb, length, sym, ap, ◌∙◌, arith}
use mathlib.Core.Path.{subst}
use lib.Dec.{T, le→leb}
use Rattle.laws.proofs.Booleans.{T-not-false, is_true}
use Rattle.laws.proofs.Somewhere.{or_none}
use Rattle.laws.proofs.Truth.{yes_first}
use Rattle.graph.specs.Delay.{present}
use Rattle.graph.specs.Graph.{Graph, reversed}
use Rattle.graph.proofs.Longest.{Within}
use Rattle.timing.proofs.Table.{graph_of_within}
use Rattle.paths.specs.Tables.{timing_graph}
use Rattle.sets.specs.declared.Set.{Set}
use Rattle.sets.specs.Sets.{holds, set_at}
use Rattle.sets.proofs.Counting.{plus_fewer}
use Rattle.reach.specs.RowSets.{Targets}
use Rattle.reach.proofs.Reaching.{is_left, none_left}
use Rattle.finder.proofs.Sources.{untargeted, narrowed_one, narrowed_on, narrowed_all, narrowed_none}
use Rattle.finder.proofs.best.Finder.others.Goals as goal
use Rattle.finder.proofs.best.Finder.others.Goals.{Start, In-Some-first}

-- a's row, and what a member of it gives
module _ (c : Start) where
  abbrev g : Graph
  g = timing_graph c.args.self.now.table

  abbrev mine : Set
  mine = set_at c.args.self.now.targets.now c.args.a

  within : Within c.args.self.now.table.board.vertices g
  within = graph_of_within c.args.self.now.table.board.vertices c.args.self.now.table.cells.now

  to_mine : Targets g c.args.a mine
  to_mine = c.args.self.now.to_targets.row c.args.a c.requires

  target : (t : ℕ) → T (holds mine t) → T (present (g c.args.a t)) × (t < c.args.self.now.table.board.vertices)
  target t h = let there = subst T (to_mine t) h in (there, (within.in_range c.args.a t there).1)

  from_sources : (t : ℕ) → T (holds mine t) → Targets (reversed g) t (set_at c.args.self.now.sources.now t)
  from_sources t h = c.args.self.now.from_sources.row t (target t h).1

  below : (t : ℕ) → T (holds mine t) → t < length c.args.self.now.sources.now
  below t h = omega (arith, (target t h).1, c.args.self.now.from_sources.long)

pub returns-in_default : goal.returns-in_default
returns-in_default c =
    let b = (goal.at.returns-in_default c).Start in
    let n = c.args.self.now.table.board.vertices in
    untargeted n (g b) c.args.a c.minus.result (λ s. c.minus.ensures s ∙ ap (λ (x : Bool). x && not (eqb s c.args.a)) (c.range.ensures s ∙ yes_first (leb 0 s) (ltb s n) (is_true (leb 0 s) (le→leb 0 s (omega arith)))))
    (λ t h. subst T (sym (to_mine b t) ∙ c.in_default.ensures t) h)

pub bounds-self-first : goal.bounds-self-first
bounds-self-first c = below (goal.at.bounds-self-first c).Start c.in-Some.first c.in-Some.ensures.1

pub loop-t-init : goal.loop-t-init
loop-t-init c =
    let b = (goal.at.loop-t-init c).Start in
    let t = c.in-Some.first in
    let h = c.in-Some.ensures.1 in
    narrowed_one c.args.self.now.table.board.vertices (g b) c.args.a t (target b t h).0 c.plus-done.result c.minus-others.result (set_at c.args.self.now.sources.now t)
    (λ x. c.plus-done.ensures x ∙ ap (λ (y : Bool). eqb x t || y) (c.empty.ensures x) ∙ or_none (eqb x t)) (from_sources b t h) c.minus-others.ensures (within b)

pub returns-then-is_empty : goal.returns-then-is_empty
returns-then-is_empty c =
    let b = (goal.at.returns-then-is_empty c).Start in
    narrowed_none c.args.self.now.table.board.vertices (g b) c.args.a (within b) c.loop-t.done c.loop-t.others c.loop-t.invariant (c.is_empty.ensures.u_value c.if-is_empty.true)

-- the next target, which has not been asked
next : (c : In-Some-first) → T (holds (mine (goal.at.In-Some-first c).Start) c.in-Some-first.t) × T (not (holds c.loop-t.done c.in-Some-first.t))
next c = is_left (mine (goal.at.In-Some-first c).Start) c.loop-t.done c.without.result c.without.ensures c.in-Some-first.t c.in-Some-first.ensures.1

pub bounds-self-t : goal.bounds-self-t
bounds-self-t c = below (goal.at.bounds-self-t c).Start c.in-Some-first.t (next (goal.at.bounds-self-t c).In-Some-first).0

pub loop-t-smaller : goal.loop-t-smaller
loop-t-smaller c =
    plus_fewer c.in-Some-first.t c.loop-t.done c.plus-done-in-Some-first.result c.in-Some-first.ensures.0 (T-not-false (next (goal.at.loop-t-smaller c).In-Some-first).1) c.plus-done-in-Some-first.ensures

pub loop-t-preserved : goal.loop-t-preserved
loop-t-preserved c =
    let b = (goal.at.loop-t-preserved c).Start in
    let t = c.in-Some-first.t in
    let h = (next (goal.at.loop-t-preserved c).In-Some-first).0 in
    narrowed_on c.args.self.now.table.board.vertices (g b) c.args.a c.loop-t.done c.loop-t.others c.loop-t.invariant t (target b t h).0 c.plus-done-in-Some-first.result c.and-others.result (set_at c.args.self.now.sources.now t)
    c.plus-done-in-Some-first.ensures (from_sources b t h) c.and-others.ensures

pub returns : goal.returns
returns c =
    let b = (goal.at.returns c).Start in
    narrowed_all c.args.self.now.table.board.vertices (g b) c.args.a (within b) c.loop-t.done c.loop-t.others c.loop-t.invariant
    (λ t z. none_left (mine b) c.loop-t.done c.without.result c.without.ensures c.in_default-first.ensures t (subst T (sym (to_mine b t)) z))
