use Rattle.std.proofs.Common.{◌≡◌, ◌≤◌, ◌++◌, List, ℕ, ℤ, length, take, drop, length-take, sym, ap, ap₂, ◌∙◌, arith}
use mathlib.Core.Path.{subst}
use Rattle.laws.specs.Lists.{tabulate}
use Rattle.paths.specs.Arrivals.{stored, filled, from_list, times_at, Starts, latest_from}
use Rattle.paths.proofs.Tables.{walk_passable}
use Rattle.paths.proofs.Starting.{first_times, inputs_started, inputs_propagated}
use Rattle.paths.proofs.arrivals.arrivals.Goals as goal

-- the inputs' times, in the first n cells
begun : (n : ℕ) (a f part : List ℤ) → n ≤ length f → part ≡ tabulate (length (take n f)) (times_at 0 a) → part ++ drop n f ≡ stored n (from_list a) f
begun n a f part room e = ap (λ (x : List ℤ). x ++ drop n f) (e ∙ ap₂ (λ (k : ℕ) (h : ℕ → ℤ). tabulate k h) (let q : length (take n f) ≡ n = omega (arith, length-take n f) in q) (first_times a))

pub propagate-requires : goal.propagate-requires
propagate-requires c =
    let n = c.args.walk.now.table.board.vertices in
    let e = begun n c.args.inputs.now c.args.f.now c.start.new.f c.requires.vertices_in_bounds c.start.ensures in
    subst (Starts n) (sym e) (inputs_started (walk_passable c.args.walk.now) c.args.inputs.now c.requires.given c.args.f.now c.requires.vertices_in_bounds)

pub returns : goal.returns
returns c =
    let n = c.args.walk.now.table.board.vertices in
    let e = begun n c.args.inputs.now c.args.f.now c.start.new.f c.requires.vertices_in_bounds c.start.ensures in
    c.propagate.ensures
    ∙ ap (λ (x : List ℤ). filled n (latest_from c.args.walk.now.table.board c.args.walk.now.table.cells.now x) x) e
    ∙ inputs_propagated (walk_passable c.args.walk.now) c.args.inputs.now c.requires.given c.args.f.now c.requires.vertices_in_bounds
