use Rattle.std.proofs.Common.{refl, ap, ◌∙◌}
use Rattle.timing.specs.Table.{graph_of}
use Rattle.timing.proofs.Verdict.{error_is}
use Rattle.paths.specs.Board.{sizes_of}
use Rattle.files.proofs.CellLoads.{no_loads_lem}
use Rattle.files.proofs.Loading.{blank_graph, loaded, not-loaded}
use Rattle.files.proofs.read.load.Goals as goal

pub returns-in_err-scan : goal.returns-in_err-scan
returns-in_err-scan c =
    rw (error_is c.from_residual.result _ c.from_residual.ensures.1) (not-loaded _ (sizes_of c.args.board) _ _ _ c.blank.ensures _ c.in_err-scan.ensures.answer _ refl)

pub fill-requires-clause-table_value : goal.fill-requires-clause-table_value
fill-requires-clause-table_value c = ap (graph_of c.args.board.vertices) c.blank.ensures ∙ blank_graph _ _

pub returns : goal.returns
returns c = loaded _ (sizes_of c.args.board) _ _ _ c.blank.ensures _ c.in_ok-scan.ensures.answer refl _ _ c.fill.ensures

pub scan-requires-clause-loads_value : goal.scan-requires-clause-loads_value
scan-requires-clause-loads_value c = no_loads_lem 90
