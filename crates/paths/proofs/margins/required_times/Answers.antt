use Rattle.std.proofs.Common.{◌≡◌, ◌≤◌, ℕ, List, ℤ, length, sym, ap, ap₂, ◌∙◌, arith}
use mathlib.Core.Path.{subst}
use Rattle.graph.specs.Delay.{mirror}
use Rattle.timing.specs.Delays.{arrival_in}
use Rattle.timing.specs.Margins.{cells}
use Rattle.paths.specs.declared.board.Board.{Board}
use Rattle.paths.specs.Arrivals.{stored, filled, times_at, Starts, Given}
use Rattle.paths.specs.Checked.{Passable}
use Rattle.paths.specs.Margins.{InReach, own_from, latest_back}
use Rattle.laws.specs.Lists.{tabulate}
use Rattle.paths.proofs.Starting.{stored_all}
use Rattle.paths.proofs.Tables.{walk_passable}
use Rattle.paths.proofs.MarginTimes.{outputs_started, back_reach, mirrored_back, placed_reach, placed_mirrored}
use Rattle.paths.proofs.margins.required_times.Goals as goal

-- the times, in all cells
placed : (n at : ℕ) (due f f₁ : List ℤ) → length f ≡ n → f₁ ≡ tabulate (length f) (times_at at due) → f₁ ≡ stored n (times_at at due) f
placed n at due f f₁ long e = e ∙ ap (λ (k : ℕ). tabulate k (times_at at due)) long ∙ sym (stored_all n (times_at at due) f long)

-- the times, mirrored
module _ {b : Board} {t : List ℤ} {o : List ℕ} (P : Passable b t o) (due f f₁ f₂ : List ℤ) (given : Given b.outputs due) (long : length f ≡ b.vertices) (room : b.vertices ≤ length f)
    (e₁ : f₁ ≡ stored b.vertices (times_at b.inputs due) f) (l₁ : length f₁ ≡ length f) (e₂ : f₂ ≡ cells (length f₁) (λ v. mirror (arrival_in f₁ v))) where
  own : f₂ ≡ stored b.vertices (own_from b due) f
  own = e₂ ∙ ap₂ (λ (k : ℕ) (x : List ℤ). cells k (λ v. mirror (arrival_in x v))) (l₁ ∙ long) e₁ ∙ placed_mirrored P.checked due given f room long

pub mirror_all-requires : goal.mirror_all-requires
mirror_all-requires c =
    let r = c.requires in
    let P = walk_passable c.args.walk.now in
    let room : c.args.walk.now.table.board.vertices ≤ length c.args.required.now = omega (arith, r.required_len) in
    let started = placed c.args.walk.now.table.board.vertices c.args.walk.now.table.board.inputs c.args.due.now c.args.required.now c.start.new.f r.required_len c.start.ensures in
    rw (c.start.auto.f, r.required_len, started) (placed_reach P.checked c.args.due.now r.given c.args.required.now room)

pub propagate_back-requires : goal.propagate_back-requires
propagate_back-requires c =
    let r = c.requires in
    let P = walk_passable c.args.walk.now in
    let room : c.args.walk.now.table.board.vertices ≤ length c.args.required.now = omega (arith, r.required_len) in
    let started = placed c.args.walk.now.table.board.vertices c.args.walk.now.table.board.inputs c.args.due.now c.args.required.now c.start.new.f r.required_len c.start.ensures in
    let e = own P c.args.due.now c.args.required.now c.start.new.f c.mirror_all.new.f r.given r.required_len room started c.start.auto.f c.mirror_all.ensures in
    subst (Starts c.args.walk.now.table.board.vertices) (sym e) (outputs_started P.checked c.args.due.now r.given c.args.required.now room)

pub mirror_all-requires-2 : goal.mirror_all-requires-2
mirror_all-requires-2 c =
    let r = c.requires in
    let P = walk_passable c.args.walk.now in
    let room : c.args.walk.now.table.board.vertices ≤ length c.args.required.now = omega (arith, r.required_len) in
    let started = placed c.args.walk.now.table.board.vertices c.args.walk.now.table.board.inputs c.args.due.now c.args.required.now c.start.new.f r.required_len c.start.ensures in
    let e = own P c.args.due.now c.args.required.now c.start.new.f c.mirror_all.new.f r.given r.required_len room started c.start.auto.f c.mirror_all.ensures in
    let are = c.propagate_back.ensures ∙ ap (λ (x : List ℤ). filled c.args.walk.now.table.board.vertices (latest_back c.args.walk.now.table.board c.args.walk.now.table.cells.now x) x) e in
    let long : length c.propagate_back.new.f ≡ c.args.walk.now.table.board.vertices = c.propagate_back.auto.f ∙ c.mirror_all.auto.f ∙ c.start.auto.f ∙ r.required_len in
    subst (λ (k : ℕ). InReach k c.propagate_back.new.f) (sym long) (subst (InReach c.args.walk.now.table.board.vertices) (sym are) (back_reach P.checked c.args.due.now r.given c.args.required.now room))

pub returns : goal.returns
returns c =
    let r = c.requires in
    let P = walk_passable c.args.walk.now in
    let room : c.args.walk.now.table.board.vertices ≤ length c.args.required.now = omega (arith, r.required_len) in
    let started = placed c.args.walk.now.table.board.vertices c.args.walk.now.table.board.inputs c.args.due.now c.args.required.now c.start.new.f r.required_len c.start.ensures in
    let e = own P c.args.due.now c.args.required.now c.start.new.f c.mirror_all.new.f r.given r.required_len room started c.start.auto.f c.mirror_all.ensures in
    let are = c.propagate_back.ensures ∙ ap (λ (x : List ℤ). filled c.args.walk.now.table.board.vertices (latest_back c.args.walk.now.table.board c.args.walk.now.table.cells.now x) x) e in
    let long : length c.propagate_back.new.f ≡ c.args.walk.now.table.board.vertices = c.propagate_back.auto.f ∙ c.mirror_all.auto.f ∙ c.start.auto.f ∙ r.required_len in
    c.mirror_all-2.ensures ∙ ap₂ (λ (k : ℕ) (x : List ℤ). cells k (λ u. mirror (arrival_in x u))) long are ∙ mirrored_back P.checked c.args.due.now r.given c.args.required.now room
