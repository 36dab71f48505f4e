use Rattle.std.proofs.Common.{◌≡◌, ◌+◌, Bool, true, None, List, ℕ, ℤ, refl, ap, ◌∙◌, subst, arith}
use Rattle.reduction.specs.Run.{Progress}
use Rattle.finder.specs.Finding.{find_star_on, Made}
use Rattle.run.specs.Sides.{Inputs, Outputs, side_tries}
use Rattle.run.specs.VertexSteps.{Shrink, MergeBack, kind_tries}
use Rattle.run.specs.Running.{progress, Running, Reaches, LeanOn, Leads, tries_on, prune_try, star_try}
use Rattle.run.proofs.Moving.{gained, running_on, held_on, steps_grow, quiet_on}
use Rattle.run.proofs.Sharing.{share_tries_gain}
use Rattle.run.proofs.Rounding.{prune_gain, vertex_tries_gain, before_star, before_gain, reaches_before, reaches_round}
use Rattle.run.proofs.LeanRounds.{lean_pruned, lean_idle, lean_on}
use Rattle.run.proofs.StarTry.{star_gain, star_skipped, star_reached, star_leaves}
use Rattle.run.proofs.KnownTables.{order_of_known, lean_of_known, starless_of_known}
use Rattle.run.proofs.round.round.Goals as goal
use Rattle.run.proofs.round.round.Goals.{After-shares-one, After-shares-two, Joined-is_lean, After-vertex_tries-four, After-vertex_tries-five, Then-is_starless, After-make_star, then-is_lean, else-is_lean}

-- after the shares of inputs, and of outputs
running_1 : (c : After-shares-one) → Running c.args.board (progress c.shares-one.new.table c.shares-one.result)
running_1 c = let b = c.args.board in running_on b (side_tries b Inputs) (progress c.args.table.now c.args.steps) _ (share_tries_gain b.inputs b.outputs b.vertices Inputs) c.shares-one.ensures.leads c.requires.running

pub shares-two-requires-clause-running : goal.shares-two-requires-clause-running
shares-two-requires-clause-running c = running_1 (goal.at.shares-two-requires-clause-running c).After-shares-one

pub shares-two-requires-clause-held : goal.shares-two-requires-clause-held
shares-two-requires-clause-held c =
    let b = c.args.board in
    held_on b (side_tries b Inputs) (progress c.args.table.now c.args.steps) (progress c.shares-one.new.table c.shares-one.result) (share_tries_gain b.inputs b.outputs b.vertices Inputs) c.shares-one.ensures.leads c.args.matrix.now c.requires.held

-- where no share is accepted the table stays
quiet_1 : (c : After-shares-one) → c.shares-one.result ≡ c.args.steps → c.shares-one.new.table ≡ c.args.table.now
quiet_1 c = let b = c.args.board in quiet_on b (side_tries b Inputs) (progress c.args.table.now c.args.steps) (progress c.shares-one.new.table c.shares-one.result) (share_tries_gain b.inputs b.outputs b.vertices Inputs) c.shares-one.ensures.leads

pub shares-two-requires-clause-given : goal.shares-two-requires-clause-given
shares-two-requires-clause-given c =
    let one = (goal.at.shares-two-requires-clause-given c).After-shares-one in
    (order_of_known c.args.board c.args.table.now c.shares-one.new.table c.args.known c.requires.known_of c.known_order.result c.args.steps c.shares-one.result c.known_order.ensures (quiet_1 one), tt)

running_2 : (c : After-shares-two) → Running c.args.board (progress c.shares-two.new.table c.shares-two.result)
running_2 c = let b = c.args.board in running_on b (side_tries b Outputs) (progress c.shares-one.new.table c.shares-one.result) _ (share_tries_gain b.inputs b.outputs b.vertices Outputs) c.shares-two.ensures.leads (running_1 (goal.at.After-shares-two c).After-shares-one)

pub try_prune-three-requires-clause-running : goal.try_prune-three-requires-clause-running
try_prune-three-requires-clause-running c = running_2 (goal.at.try_prune-three-requires-clause-running c).After-shares-two

quiet_2 : (c : After-shares-two) → c.shares-two.result ≡ c.args.steps → c.shares-two.new.table ≡ c.args.table.now
quiet_2 c e =
    let b = c.args.board in
    let first = progress c.args.table.now c.args.steps in
    let one = progress c.shares-one.new.table c.shares-one.result in
    let two = progress c.shares-two.new.table c.shares-two.result in
    let gain_1 = share_tries_gain b.inputs b.outputs b.vertices Inputs in
    let gain_2 = share_tries_gain b.inputs b.outputs b.vertices Outputs in
    let up_1 = steps_grow b (side_tries b Inputs) first one gain_1 c.shares-one.ensures.leads in
    let up_2 = steps_grow b (side_tries b Outputs) one two gain_2 c.shares-two.ensures.leads in
    quiet_on b (side_tries b Outputs) one two gain_2 c.shares-two.ensures.leads (omega (arith, up_1, up_2, e))
    ∙ quiet_1 (goal.at.After-shares-two c).After-shares-one (omega (arith, up_1, up_2, e))

-- prune, or no prune on a table that is lean
module _ (c : Joined-is_lean) where
  abbrev two : After-shares-two
  two = (goal.at.Joined-is_lean c).After-shares-two

  leads_3 : Leads c.args.board (prune_try c.args.board) c.shares-two.new.table c.shares-two.result c.if-is_lean.table c.if-is_lean.three
  leads_3 = elim c.if-is_lean.branch [
    | then-is_lean w ↦
        let known = c.is_lean.ensures w.if-is_lean.true in
        rw (w.table-is, w.three-is) (lean_idle c.args.board (progress c.shares-two.new.table c.shares-two.result) (lean_of_known c.args.board c.args.table.now c.shares-two.new.table c.args.known c.requires.known_of known.0 (quiet_2 two known.1)))
    | else-is_lean w ↦ rw (w.table-is, w.three-is) w.try_prune-three.ensures.leads
  ]

  running_3 : Running c.args.board (progress c.if-is_lean.table c.if-is_lean.three)
  running_3 = let b = c.args.board in running_on b (prune_try b) (progress c.shares-two.new.table c.shares-two.result) _ (prune_gain b.inputs b.outputs b.vertices) leads_3 (running_2 two)

  lean_3 : LeanOn c.args.board c.if-is_lean.table
  lean_3 = lean_pruned c.args.board (progress c.shares-two.new.table c.shares-two.result) (progress c.if-is_lean.table c.if-is_lean.three) (running_2 two) leads_3

pub vertex_tries-four-requires-clause-running : goal.vertex_tries-four-requires-clause-running
vertex_tries-four-requires-clause-running c = running_3 (goal.at.vertex_tries-four-requires-clause-running c).Joined-is_lean

pub vertex_tries-four-requires-clause-lean_on : goal.vertex_tries-four-requires-clause-lean_on
vertex_tries-four-requires-clause-lean_on c = lean_3 (goal.at.vertex_tries-four-requires-clause-lean_on c).Joined-is_lean

-- after shrink's tries
module _ (c : After-vertex_tries-four) where
  abbrev three : Joined-is_lean
  three = (goal.at.After-vertex_tries-four c).Joined-is_lean

  running_4 : Running c.args.board (progress c.vertex_tries-four.new.table c.vertex_tries-four.result)
  running_4 = let b = c.args.board in running_on b (kind_tries b Shrink) (progress c.if-is_lean.table c.if-is_lean.three) _ (vertex_tries_gain b.inputs b.outputs b.vertices Shrink) c.vertex_tries-four.ensures (running_3 three)

  lean_4 : LeanOn c.args.board c.vertex_tries-four.new.table
  lean_4 = lean_on c.args.board Shrink (progress c.if-is_lean.table c.if-is_lean.three) (progress c.vertex_tries-four.new.table c.vertex_tries-four.result) c.vertex_tries-four.ensures (lean_3 three)

pub vertex_tries-five-requires-clause-running : goal.vertex_tries-five-requires-clause-running
vertex_tries-five-requires-clause-running c = running_4 (goal.at.vertex_tries-five-requires-clause-running c).After-vertex_tries-four

pub vertex_tries-five-requires-clause-lean_on : goal.vertex_tries-five-requires-clause-lean_on
vertex_tries-five-requires-clause-lean_on c = lean_4 (goal.at.vertex_tries-five-requires-clause-lean_on c).After-vertex_tries-four

-- the five parts before the finder's
module _ (c : After-vertex_tries-five) where
  abbrev four : After-vertex_tries-four
  four = (goal.at.After-vertex_tries-five c).After-vertex_tries-four

  abbrev first : Progress
  first = progress c.args.table.now c.args.steps

  abbrev five : Progress
  five = progress c.vertex_tries-five.new.table c.vertex_tries-five.result

  leads_5 : Reaches c.args.board.vertices (before_star c.args.board.inputs c.args.board.outputs c.args.board.vertices) first five
  leads_5 =
      let b = c.args.board in
      reaches_before b.inputs b.outputs b.vertices first (progress c.shares-one.new.table c.shares-one.result) (progress c.shares-two.new.table c.shares-two.result) (progress c.if-is_lean.table c.if-is_lean.three)
      (progress c.vertex_tries-four.new.table c.vertex_tries-four.result) five
      c.shares-one.ensures.leads c.shares-two.ensures.leads (leads_3 (three four)) c.vertex_tries-four.ensures c.vertex_tries-five.ensures

  running_5 : Running c.args.board five
  running_5 = let b = c.args.board in running_on b (before_star b.inputs b.outputs b.vertices) first five (before_gain b.inputs b.outputs b.vertices) leads_5 c.requires.running

  lean_5 : LeanOn c.args.board c.vertex_tries-five.new.table
  lean_5 = lean_on c.args.board MergeBack (progress c.vertex_tries-four.new.table c.vertex_tries-four.result) five c.vertex_tries-five.ensures (lean_4 four)

  quiet_5 : c.vertex_tries-five.result ≡ c.args.steps → c.vertex_tries-five.new.table ≡ c.args.table.now
  quiet_5 = let b = c.args.board in quiet_on b (before_star b.inputs b.outputs b.vertices) first five (before_gain b.inputs b.outputs b.vertices) leads_5

  -- with the finder's
  leads_6 : (t : List ℤ) (n : ℕ) → Reaches c.args.board.vertices (star_try c.args.board) five (progress t n) → Leads c.args.board (tries_on c.args.board) c.args.table.now c.args.steps t n
  leads_6 t n way = let b = c.args.board in reaches_round b.inputs b.outputs b.vertices first five (progress t n) leads_5 way

-- the table is as the finder saw it
starless : (c : Then-is_starless) → find_star_on c.args.board c.vertex_tries-five.new.table ≡ None
starless c =
    let known = c.is_starless.ensures c.if-is_starless.true in
    starless_of_known c.args.board c.args.table.now c.vertex_tries-five.new.table c.args.known c.requires.known_of known.0 (quiet_5 (goal.at.Then-is_starless c).After-vertex_tries-five known.1)

pub returns-then-is_starless-clause-leads : goal.returns-then-is_starless-clause-leads
returns-then-is_starless-clause-leads c =
    leads_6 (goal.at.returns-then-is_starless-clause-leads c).After-vertex_tries-five c.vertex_tries-five.new.table c.vertex_tries-five.result
    (star_skipped c.args.board (progress c.vertex_tries-five.new.table c.vertex_tries-five.result) (starless c))

pub returns-then-is_starless-clause-known_next : goal.returns-then-is_starless-clause-known_next
returns-then-is_starless-clause-known_next c = (lean_5 (goal.at.returns-then-is_starless-clause-known_next c).After-vertex_tries-five, starless c)

pub make_star-requires : goal.make_star-requires
make_star-requires c = (running_5 (goal.at.make_star-requires c).After-vertex_tries-five).checked

module _ (c : After-make_star) where
  abbrev before : After-vertex_tries-five
  before = (goal.at.After-make_star c).After-vertex_tries-five

  way_6 : (r : Bool) → c.make_star.result ≡ r → Reaches c.args.board.vertices (star_try c.args.board) (five before) (progress c.make_star.new.table (c.vertex_tries-five.result + gained r))
  way_6 r e = star_reached (running_5 before).checked c.make_star.new.table c.vertex_tries-five.result r (subst (Made c.args.board c.vertex_tries-five.new.table c.make_star.new.table) e c.make_star.ensures)

  lean_6 : LeanOn c.args.board c.make_star.new.table
  lean_6 = star_leaves c.args.board (five before) (progress c.make_star.new.table (c.vertex_tries-five.result + gained c.make_star.result)) (way_6 c.make_star.result refl) (lean_5 before)

pub overflow_add-result : goal.overflow_add-result
overflow_add-result c =
    let b = c.args.board in
    let d = (goal.at.overflow_add-result c).After-make_star in
    let run = running_on b (star_try b) (five (before d)) (progress c.make_star.new.table (c.vertex_tries-five.result + 1)) (star_gain b) (way_6 d true c.if-make_star.true) (running_5 (before d)) in
    omega (arith, run.bound)

pub returns-then-make_star-clause-leads : goal.returns-then-make_star-clause-leads
returns-then-make_star-clause-leads c =
    let d = (goal.at.returns-then-make_star-clause-leads c).After-make_star in
    leads_6 (before d) c.make_star.new.table (c.vertex_tries-five.result + 1) (way_6 d true c.if-make_star.true)

pub returns-then-make_star-clause-known_next : goal.returns-then-make_star-clause-known_next
returns-then-make_star-clause-known_next c = lean_6 (goal.at.returns-then-make_star-clause-known_next c).After-make_star

pub returns-else-make_star-clause-leads : goal.returns-else-make_star-clause-leads
returns-else-make_star-clause-leads c =
    let d = (goal.at.returns-else-make_star-clause-leads c).After-make_star in
    let none = c.make_star.ensures.none c.if-make_star.false in
    rw none.1 (leads_6 (before d) c.vertex_tries-five.new.table c.vertex_tries-five.result (star_skipped c.args.board (five (before d)) none.0))

pub returns-else-make_star-clause-known_next : goal.returns-else-make_star-clause-known_next
returns-else-make_star-clause-known_next c =
    let none = c.make_star.ensures.none c.if-make_star.false in
    (lean_6 (goal.at.returns-else-make_star-clause-known_next c).After-make_star, ap (find_star_on c.args.board) none.1 ∙ none.0)
