use Rattle.std.proofs.Common.{◌≡◌, ◌+◌, ◌-◌, ◌<◌, ℕ, ℤ, List, Bool, get_or, pos, w64, to_z, of_z, FitsSigned, sym, subst, rules, arith}
use mir.Facts.{sfits_lit}
use Rattle.laws.proofs.Signed.{same_bits, other_bits}
use Rattle.timing.specs.Limits.{absent_wide}
use Rattle.paths.specs.declared.board.Board.{Board}
use Rattle.paths.specs.Arrivals.{Reached}
use Rattle.paths.proofs.Tables.{walk_passable}
use Rattle.pruning.proofs.AliveSweep as A
use Rattle.pruning.proofs.prune.sweep.Goals as goal
use Rattle.paths.specs.Order.{rank_of}

-- a turn, at the place before p
module _ {b : Board} {t : List ℤ} {o : List ℕ} {f₀ f : List ℤ} {marks₀ marks : List Bool} (p : ℕ) (some : 0 < p)
    (inv : (i : ℕ) (S : A.Sweep b i t o f₀ marks₀) → A.Going b i t (rank_of b.vertices o) f₀ f marks₀ marks p) (i : ℕ) (S : A.Sweep b i t o f₀ marks₀) where
  going : A.Going b i t (rank_of b.vertices o) f₀ f marks₀ marks (p - 1 + 1)
  going = let e : p ≡ p - 1 + 1 = omega arith in subst (λ (k : ℕ). A.Going b i t (rank_of b.vertices o) f₀ f marks₀ marks k) e (inv i S)

pub mark_row-found-requires-clause-reached : goal.mark_row-found-requires-clause-reached
mark_row-found-requires-clause-reached c =
    let l = c.loop-p in
    let q = l.p - 1 in
    let S : A.Sweep c.args.walk.now.table.board c.requires.from_input.input c.args.walk.now.table.cells.now c.args.walk.now.order.now c.args.f.now c.args.marks.now =
    record { passable = (walk_passable c.args.walk.now); delays = c.requires.from_input.delays; cells = c.requires.marks_room } in
    let a = get_or l.f (get_or c.args.walk.now.order.now q 0) (pos 0) in
    let bits : to_z w64 (of_z w64 a) ≡ a = search rules in
    rw c.from-u.ensures (subst Reached (sym bits) (A.reached S l.f l.marks q (going l.p c.loop-p-test.true l.invariant _ S) (other_bits w64 {b = absent_wide} (rw c.from-u.ensures at c.if-a.true))))

pub loop-p-preserved-then-not-is_alive : goal.loop-p-preserved-then-not-is_alive
loop-p-preserved-then-not-is_alive c j w =
    let l = c.loop-p in
    let a = get_or l.f (get_or c.args.walk.now.order.now (l.p - 1) 0) (pos 0) in
    let bits : to_z w64 (of_z w64 a) ≡ a = search rules in
    rw c.from-u.ensures (A.turn_dead w l.f l.marks (l.p - 1) (going l.p c.loop-p-test.true l.invariant j w) c.args.walk.now.chains c.mark_row-found.new.marks c.mark_row-found.result c.is_alive.result
    (rw (c.row.ensures.cells, c.row.ensures.links, c.from-u.ensures, bits) at c.mark_row-found.ensures) (other_bits w64 {b = absent_wide} (rw c.from-u.ensures at c.if-a.true)) (rw c.from-u.ensures at c.is_alive.ensures) (rw c.from-u.ensures at c.mark_row-found.auto.marks) c.if-not-is_alive.true)

pub loop-p-preserved-else-not-is_alive : goal.loop-p-preserved-else-not-is_alive
loop-p-preserved-else-not-is_alive c j w =
    let l = c.loop-p in
    let a = get_or l.f (get_or c.args.walk.now.order.now (l.p - 1) 0) (pos 0) in
    let bits : to_z w64 (of_z w64 a) ≡ a = search rules in
    rw c.from-u.ensures (A.turn_alive w l.f l.marks (l.p - 1) (going l.p c.loop-p-test.true l.invariant j w) c.args.walk.now.chains c.mark_row-found.new.marks c.mark_row-found.result c.is_alive.result
    (rw (c.row.ensures.cells, c.row.ensures.links, c.from-u.ensures, bits) at c.mark_row-found.ensures) (other_bits w64 {b = absent_wide} (rw c.from-u.ensures at c.if-a.true)) (rw c.from-u.ensures at c.is_alive.ensures) (rw c.from-u.ensures at c.mark_row-found.auto.marks) c.if-not-is_alive.false)

pub loop-p-preserved : goal.loop-p-preserved
loop-p-preserved c j w =
    let l = c.loop-p in
    let q = l.p - 1 in
    let fits : FitsSigned w64 (get_or l.f (get_or c.args.walk.now.order.now q 0) (pos 0)) = search rules in
    A.skip w l.f l.marks q (going l.p c.loop-p-test.true l.invariant j w) (same_bits {w = w64} {b = absent_wide} fits (sfits_lit tt) (rw c.from-u.ensures at c.if-a.false))

pub returns-clause-swept : goal.returns-clause-swept
returns-clause-swept c j D =
    let l = c.loop-p in
    let S : A.Sweep c.args.walk.now.table.board j c.args.walk.now.table.cells.now c.args.walk.now.order.now c.args.f.now c.args.marks.now = record { passable = (walk_passable c.args.walk.now); delays = D; cells = c.requires.marks_room } in
    let e : l.p ≡ 0 = omega arith in
    A.end S l.f l.marks (subst (λ (k : ℕ). A.Going c.args.walk.now.table.board j c.args.walk.now.table.cells.now (rank_of c.args.walk.now.table.board.vertices c.args.walk.now.order.now) c.args.f.now l.f c.args.marks.now l.marks k) e (l.invariant j S))

pub returns-clause-past : goal.returns-clause-past
returns-clause-past c = (c.loop-p.invariant c.requires.from_input.input (record { passable = (walk_passable c.args.walk.now); delays = c.requires.from_input.delays; cells = c.requires.marks_room })).past
