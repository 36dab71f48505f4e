use Rattle.std.proofs.Common.{arith, mul-le-mul}
use borrow.Author.Tests.{lt-leb, le-leb}
use Rattle.timing.specs.Limits.{max_vertices}
use Rattle.host.specs.Shown.{shown}
use Rattle.host.proofs.Shown.{shown_is}
use Rattle.host.proofs.runs.shown.Goals as goal

pub returns-then-rows-gt-MAX_VERTICES : goal.returns-then-rows-gt-MAX_VERTICES
unfolding shown
returns-then-rows-gt-MAX_VERTICES c = (simp (lt-leb _ max_vertices c.if-rows-gt-MAX_VERTICES.true), omega arith)

pub returns-then-columns-gt-MAX_VERTICES : goal.returns-then-columns-gt-MAX_VERTICES
unfolding shown
returns-then-columns-gt-MAX_VERTICES c =
    (simp (lt-leb _ max_vertices c.if-columns-gt-MAX_VERTICES.true, le-leb _ max_vertices c.if-rows-gt-MAX_VERTICES.false), omega arith)

pub returns : goal.returns
returns c =
    (omega (arith, shown_is c.args.rows c.args.columns c.args.cells (omega arith) (omega arith)), omega (arith, mul-le-mul c.if-rows-gt-MAX_VERTICES.false c.if-columns-gt-MAX_VERTICES.false))
