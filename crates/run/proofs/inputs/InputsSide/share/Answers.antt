use Rattle.std.proofs.Common.{◌≡◌, ◌<◌, Option, Some, List, ℕ, ℤ, sym, ap, ◌∙◌, to_z-of_z}
use Rattle.timing.specs.Refusal.{Verdict}
use Rattle.timing.specs.Table.{graph_of}
use Rattle.reduction.specs.ShareInputs.{share_inputs_verdict}
use Rattle.paths.specs.declared.board.Board.{Board}
use Rattle.paths.specs.Checked.{Checked}
use Rattle.plans.specs.OnBoards.{inputs_saved_on, fresh_on, Free}
use Rattle.run.specs.Pairs.{Pair, Compared}
use Rattle.steps.proofs.Ready.{narrow_fits, narrowed, narrowed_accepted, share_inputs_ready}
use Rattle.run.specs.Sides.{Inputs}
use Rattle.run.proofs.ShareVerdicts.{refused_low, rows_saved, rows_full}
use Rattle.run.proofs.TriedShares.{share_taken, share_left}
use Rattle.run.proofs.inputs.InputsSide.share.Goals as goal

-- no number is free
pub returns-in_default-clause-tries_share : goal.returns-in_default-clause-tries_share
returns-in_default-clause-tries_share c =
    let a = c.args in
    share_left a.board a.table.now Inputs a.a a.b (fresh_on a.board a.table.now) (rows_full a.board a.table.now a.a a.b a.e (fresh_on a.board a.table.now) (rw c.in_default.is at c.requires.known.0))

module _ {board : Board} {t : List ℤ} {a b : ℕ} {e : ℤ} (checked : Checked board t) {free : Option ℕ} (known : Free board t free) (pair : Pair Inputs board a b)
    (compared : Compared Inputs board t a b e) {k : ℕ} (taken : free ≡ Some k) where
  number : (k ≡ fresh_on board t) × (k < board.vertices)
  number = rw taken at known

  -- what is left to ask is the verdict
  asked : {v : Verdict ℤ} {z : ℤ} → z ≡ e → v ≡ inputs_saved_on board t b z → share_inputs_verdict board.inputs board.outputs board.vertices a b k (graph_of board.vertices t) ≡ v
  asked same said = rows_saved board t a b e checked pair compared k number.0 number.1 ∙ sym (ap (inputs_saved_on board t b) same) ∙ sym said

pub returns-in_default-inputs_saved-clause-tries_share : goal.returns-in_default-inputs_saved-clause-tries_share
returns-in_default-inputs_saved-clause-tries_share c =
    let a = c.args in
    let q = c.requires in
    rw (sym (number q.checked q.known.0 q.pair q.compared c.in-Some.is).0) (share_left a.board a.table.now Inputs a.a a.b c.in-Some.k
    (refused_low (asked q.checked q.known.0 q.pair q.compared c.in-Some.is (to_z-of_z c.ranges.e) c.in_default-inputs_saved.ensures.result_value)))

pub narrow-e-requires : goal.narrow-e-requires
narrow-e-requires c =
    let a = c.args in
    let q = c.requires in
    let b = a.board in
    narrow_fits c.in-Ok.d (share_inputs_ready b.inputs b.outputs b.vertices a.a a.b c.in-Some.k (graph_of b.vertices a.table.now) c.in-Ok.d
    (asked q.checked q.known.0 q.pair q.compared c.in-Some.is (to_z-of_z c.ranges.e) c.in-Ok.ensures.result_value))

pub share-requires-clause-accepted : goal.share-requires-clause-accepted
share-requires-clause-accepted c =
    let a = c.args in
    let q = c.requires in
    let b = a.board in
    let found = asked q.checked q.known.0 q.pair q.compared c.in-Some.is (to_z-of_z c.ranges.e) c.in-Ok.ensures.result_value in
    let ready = share_inputs_ready b.inputs b.outputs b.vertices a.a a.b c.in-Some.k (graph_of b.vertices a.table.now) c.in-Ok.d found in
    narrowed_accepted c.in-Ok.d ready found _ c.narrow-e.type_inv c.narrow-e.ensures

pub returns-clause-tries_share : goal.returns-clause-tries_share
returns-clause-tries_share c =
    let a = c.args in
    let q = c.requires in
    let b = a.board in
    let found = asked q.checked q.known.0 q.pair q.compared c.in-Some.is (to_z-of_z c.ranges.e) c.in-Ok.ensures.result_value in
    let ready = share_inputs_ready b.inputs b.outputs b.vertices a.a a.b c.in-Some.k (graph_of b.vertices a.table.now) c.in-Ok.d found in
    rw (sym (number q.checked q.known.0 q.pair q.compared c.in-Some.is).0)
    (share_taken b a.table.now Inputs a.a a.b c.in-Some.k found (narrowed c.in-Ok.d ready _ c.narrow-e.type_inv c.narrow-e.ensures) c.share.new.table c.share.ensures)
