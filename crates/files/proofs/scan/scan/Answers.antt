use Rattle.std.proofs.Common.{refl, sym, ap, subst, ◌∙◌, ℕ, ◌+◌, ◌≤◌, Ok, length, get_or, set, arith}
use Rattle.timing.proofs.Verdict.{error_is}
use Rattle.format.specs.Reading.{board_shape, board_records}
use Rattle.files.proofs.Scanning.{all_left, turn_says, still_left}
use Rattle.files.proofs.Counting.{known_short, refused_scan, goes_on, is_done, Counting, counting_start, counts_few, counting_turn, counting_done}
use Rattle.files.proofs.scan.scan.Goals as goal

pub loop-after-init : goal.loop-after-init
unfolding board_records
loop-after-init c =
    let a = c.args in
    record {
      left = all_left (board_shape a.n) _ a.bytes.now (known_short a.library.now a.n a.bytes.now) 5 c.requires.in_bounds;
      counting = counting_start a.n a.bytes.now a.loads.now c.requires.loads_value;
    }

pub returns-in_err-after : goal.returns-in_err-after
returns-in_err-after c =
    rw (error_is c.from_residual.result _ c.from_residual.ensures.1) (refused_scan (turn_says _ _ _ (known_short c.args.library.now _ _) c.loop-after.invariant.left c.in_err-after.ensures refl))

pub byte-u-requires : goal.byte-u-requires
byte-u-requires c =
    (goes_on c.args.library.now _ _ _ c.turn.ensures c.in-Some.after (c.in_ok-after.was ∙ ap Ok c.in-Some.is)).read

pub bounds-loads-u : goal.bounds-loads-u
bounds-loads-u c =
    let on = goes_on c.args.library.now _ _ _ c.turn.ensures c.in-Some.after (c.in_ok-after.was ∙ ap Ok c.in-Some.is) in
    omega (arith, c.byte-u.ensures.0, on.source_is, on.from_in, c.requires.n_in_bounds, c.loop-after.auto.loads)

pub overflow_add-loads : goal.overflow_add-loads
overflow_add-loads c =
    let on = goes_on c.args.library.now _ _ _ c.turn.ensures c.in-Some.after (c.in_ok-after.was ∙ ap Ok c.in-Some.is) in
    let loads = c.loop-after.loads in
    record { fits = omega (arith, ap (λ (u : ℕ). get_or loads u 0) (c.byte-u.ensures.0 ∙ on.source_is), counts_few _ _ loads _ c.loop-after.invariant.counting c.in-Some.after on, c.requires.n_le_max_vertices) }

pub bounds-loads-u-in-Some : goal.bounds-loads-u-in-Some
bounds-loads-u-in-Some c =
    let on = goes_on c.args.library.now _ _ _ c.turn.ensures c.in-Some.after (c.in_ok-after.was ∙ ap Ok c.in-Some.is) in
    omega (arith, c.byte-u.ensures.0, on.source_is, on.from_in, c.requires.n_in_bounds, c.loop-after.auto.loads)

pub loop-after-preserved : goal.loop-after-preserved
loop-after-preserved c =
    let d = c.in-Some.after in
    let said = c.in_ok-after.was ∙ ap Ok c.in-Some.is in
    let on = goes_on c.args.library.now _ _ _ c.turn.ensures d said in
    let f = c.turn.ensures.further d said in
    let i = c.loop-after.invariant in
    let loads = c.loop-after.loads in
    let room : c.args.n ≤ length loads = omega (arith, c.requires.n_in_bounds, c.loop-after.auto.loads) in
    record {
      left = still_left _ _ _ (known_short c.args.library.now c.args.n c.args.bytes.now) i.left c.turn.ensures _ said;
      counting = subst (λ (u : ℕ). Counting c.args.n c.args.bytes.now (set loads u (get_or loads u 0 + 1)) d) (sym (c.byte-u.ensures.0 ∙ on.source_is)) (counting_turn _ _ loads _ i.counting d on room f.0 f.1.inside);
    }

pub returns : goal.returns
returns c =
    let said = c.in_ok-after.was ∙ ap Ok c.in_default.is in
    let i = c.loop-after.invariant in
    record {
      answer = turn_says _ _ _ (known_short c.args.library.now _ _) i.left c.turn.ensures said;
      counted = λ _. counting_done _ _ _ _ i.counting (is_done _ _ _ _ c.turn.ensures said);
    }
