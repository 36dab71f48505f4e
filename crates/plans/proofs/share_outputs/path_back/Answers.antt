use Rattle.std.proofs.Common.{◌≡◌, subst, Some, true, Bool, sym, ap, ◌∙◌, ◌+◌, ◌*◌, ℕ, ℤ, List, length, take, get_or, pos, rules}
use Rattle.graph.specs.Graph.{Graph}
use Rattle.paths.specs.declared.board.Board.{Board}
use Rattle.paths.specs.Checked.{Checked}
use Rattle.sets.specs.declared.Set.{Set}
use Rattle.reach.specs.RowSets.{RowSets, Rowed}
use Rattle.plans.specs.Sharing.{path_on}
use Rattle.timing.specs.Limits.{absent_cell}
use Rattle.timing.specs.Table.{read_cell}
use Rattle.laws.proofs.Booleans.{T_true, true_is}
use Rattle.graph.specs.Delay.{present}
use Rattle.graph.specs.Graph.{longest}
use Rattle.graph.proofs.Presence.{present-⊑}
use Rattle.graph.proofs.Longest.{longest_is}
use Rattle.graph.proofs.Closure.{arc_⊑}
use Rattle.timing.proofs.Checks.{sound_within}
use Rattle.timing.proofs.Table.{graph_of_at}
use Rattle.paths.specs.Board.{graph_in}
use Rattle.paths.proofs.Tables.{checked_table}
use Rattle.paths.proofs.Before.{no_path_back}
use Rattle.reach.proofs.Front.{front_long, rowed_front}
use Rattle.plans.proofs.share_outputs.path_back.Goals as goal
use Rattle.plans.proofs.share_outputs.path_back.Goals.{In-Some, then-is_none, else-is_none}

-- the sets of the rows say that there is a path
module _ (board : Board) (t : List ℤ) (rows : List Set) (ok : Checked board t) (made : RowSets board.vertices (graph_in board t) rows) where
  rowed : Rowed (length (take board.vertices rows)) (graph_in board t) (take board.vertices rows)
  rowed = rowed_front (record { rows = made; inside = (sound_within ok.sound).in_range })

  led : (b a : ℕ) (r : Bool) → ((g : Graph) → Rowed (length (take board.vertices rows)) g (take board.vertices rows) → r ≡ present (longest g (length (take board.vertices rows)) b a)) → r ≡ path_on board t b a
  led b a r h = h (graph_in board t) rowed ∙ ap (λ (n : ℕ). present (longest (graph_in board t) n b a)) (front_long made)

pub returns-then-is_ahead-clause-found_value : goal.returns-then-is_ahead-clause-found_value
returns-then-is_ahead-clause-found_value c =
    let ahead = c.is_ahead.ensures c.if-is_ahead.true in
    sym (no_path_back (rw ahead.1 at c.requires.order_of) c.args.a c.args.b ahead.2)

pub returns-then-is_arc-clause-found_value : goal.returns-then-is_arc-clause-found_value
returns-then-is_arc-clause-found_value c =
    let n = c.args.table.now.board.vertices in
    let g = graph_in c.args.table.now.board c.args.table.now.cells.now in
    let two = c.requires.two_outputs in
    let sound = c.requires.sound in
    let cell : present (read_cell absent_cell (get_or c.args.table.now.cells.now (n * c.args.b + c.args.a) (pos 0))) ≡ true = search rules in
    let arc : present (g c.args.b c.args.a) ≡ true = ap present (graph_of_at n c.args.table.now.cells.now c.args.b c.args.a two.below_b two.below_a) ∙ cell in
    sym (T_true (present-⊑ (arc_⊑ (longest_is n g (sound_within sound) sound.acyclic) c.args.b c.args.a) (true_is arc)))

some_same : {x y : List Set} → Some x ≡ Some y → x ≡ y
some_same e = cc

-- the sets are there
indexed : (c : In-Some) → RowSets c.args.table.now.board.vertices (graph_in c.args.table.now.board c.args.table.now.cells.now) c.in-Some.made
indexed c = elim c.if-is_none.branch [
  | then-is_none w ↦ let e = sym w.rows-is ∙ c.in-Some.is in subst (RowSets c.args.table.now.board.vertices (graph_in c.args.table.now.board c.args.table.now.cells.now)) (some_same e) w.row_sets.ensures
  | else-is_none w ↦ rw (sym w.rows-is ∙ c.in-Some.is) at c.requires.indexed
]

pub leads-requires-clause-rowed : goal.leads-requires-clause-rowed
leads-requires-clause-rowed c = (_, rowed c.args.table.now.board c.args.table.now.cells.now c.in-Some.made (checked_table c.args.table.now c.requires.sound) (indexed (goal.at.leads-requires-clause-rowed c).In-Some))

pub returns-in-Some-clause-found_value : goal.returns-in-Some-clause-found_value
returns-in-Some-clause-found_value c =
    led c.args.table.now.board c.args.table.now.cells.now c.in-Some.made (checked_table c.args.table.now c.requires.sound) (indexed (goal.at.returns-in-Some-clause-found_value c).In-Some) c.args.b c.args.a c.leads.result c.leads.ensures
