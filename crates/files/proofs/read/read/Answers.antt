use Rattle.std.proofs.Common.{refl, sym}
use Rattle.timing.proofs.Verdict.{error_is}
use Rattle.files.proofs.Opening.{opened_long}
use Rattle.files.proofs.Loading.{call_stopped, call_table, call_done, call_refused}
use Rattle.files.proofs.read.read.Goals as goal

pub returns-in_err-board-clause-result_value : goal.returns-in_err-board-clause-result_value
returns-in_err-board-clause-result_value c =
    rw (error_is c.from_residual.result _ c.from_residual.ensures.1) (sym (call_stopped _ _ _ _ _ _ (sym c.in_err-board.ensures.answer)).0)

pub returns-in_err-board-clause-table_after : goal.returns-in_err-board-clause-table_after
returns-in_err-board-clause-table_after c = sym (call_stopped _ _ _ _ _ _ (sym c.in_err-board.ensures.answer)).1

pub load-requires-clause-lent : goal.load-requires-clause-lent
load-requires-clause-lent c = (c.in_ok-board.ensures.lent _ refl).0

pub load-requires-clause-in_bounds : goal.load-requires-clause-in_bounds
load-requires-clause-in_bounds c = opened_long _ _ _ _ _ (sym c.in_ok-board.ensures.answer)

pub invariant_of-library : goal.invariant_of-library
invariant_of-library c = record { in_force = (c.in_ok-board.ensures.lent _ refl).1 }

pub returns-in_err-load-clause-result_value : goal.returns-in_err-load-clause-result_value
returns-in_err-load-clause-result_value c =
    rw (error_is c.from_residual-in_err-load.result _ c.from_residual-in_err-load.ensures.1) (call_refused _ _ _ _ _ (sym c.in_ok-board.ensures.answer) _ _ c.load.ensures _ c.in_err-load.was)

pub returns-in_err-load-clause-table_after : goal.returns-in_err-load-clause-table_after
returns-in_err-load-clause-table_after c = call_table _ _ _ _ _ (sym c.in_ok-board.ensures.answer) _ _ c.load.ensures

pub returns-clause-result_value : goal.returns-clause-result_value
returns-clause-result_value c = call_done _ _ _ _ _ (sym c.in_ok-board.ensures.answer) _ _ c.load.ensures c.in_ok-load.was

pub returns-clause-table_after : goal.returns-clause-table_after
returns-clause-table_after c = call_table _ _ _ _ _ (sym c.in_ok-board.ensures.answer) _ _ c.load.ensures
