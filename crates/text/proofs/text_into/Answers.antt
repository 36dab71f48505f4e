use Rattle.std.proofs.Common.{◌∙◌, arith}
use Rattle.records.proofs.Appending.{appends_same}
use Rattle.text.proofs.ThinTexts.{blank-table, text_is, stops_inside}
use Rattle.text.proofs.text_into.Goals as goal

pub refused_text-requires-clause-at_bound : goal.refused_text-requires-clause-at_bound
refused_text-requires-clause-at_bound c =
    omega (arith, c.requires.input_len_bound, stops_inside c.args.input.now c.requires.library_value (c.blank.ensures ∙ blank-table c.args.table.now c.requires.table_len) c.requires.scratch_len c.read.ensures.result_value _ c.in-Err.is)

pub returns-in-Ok-clause-appends : goal.returns-in-Ok-clause-appends
returns-in-Ok-clause-appends c =
    appends_same (text_is c.args.input.now c.requires.library_value (c.blank.ensures ∙ blank-table c.args.table.now c.requires.table_len) c.requires.scratch_len c.read.ensures.result_value c.read.ensures.table_after _ c.in-Ok.is) c.run_text.ensures.appends

pub returns-in-Err-clause-appends : goal.returns-in-Err-clause-appends
returns-in-Err-clause-appends c =
    appends_same (text_is c.args.input.now c.requires.library_value (c.blank.ensures ∙ blank-table c.args.table.now c.requires.table_len) c.requires.scratch_len c.read.ensures.result_value c.read.ensures.table_after _ c.in-Err.is) c.refused_text.ensures.appends
