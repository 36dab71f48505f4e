use Rattle.std.proofs.Common.{◌≡◌, true, false, rules, arith}
use Rattle.graph.specs.Delay.{present}
use Rattle.paths.specs.Cells.{cell_at}
use Rattle.reach.proofs.Gathered.{gathered_yes, gathered_no, added_yes, added_no}
use Rattle.reach.proofs.add_row.Goals as goal
use Rattle.reach.proofs.add_row.Goals.{then-is_arc, else-is_arc}

pub loop-v-preserved : goal.loop-v-preserved
loop-v-preserved c =
    let row = c.args.row.now in
    let l = c.loop-v in
    elim c.if-is_arc.branch [
      | then-is_arc w ↦
          let said : present (cell_at row l.v) ≡ true = search rules in
          record {
            set = rw w.set-is (gathered_yes (λ v. present (cell_at row v)) l.v l.set l.invariant.set said w.plus-set.result w.plus-set.ensures);
            added = rw w.sources-is (added_yes c.args.u row c.args.sources.now l.v l.sources l.invariant.added (omega (arith, c.loop-v-test.true, c.requires.room, l.invariant.added.long)) said w.plus.result w.plus.ensures);
          }
      | else-is_arc w ↦
          let said : present (cell_at row l.v) ≡ false = search rules in
          record {
            set = rw w.set-is (gathered_no (λ v. present (cell_at row v)) l.v l.set l.invariant.set said);
            added = rw w.sources-is (added_no c.args.u row c.args.sources.now l.v l.sources l.invariant.added said);
          }
    ]
