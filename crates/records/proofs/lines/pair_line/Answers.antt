use Rattle.format.specs.Text.{words}
use Rattle.records.proofs.Appending.{puts_more}
use Rattle.records.proofs.lines.pair_line.Goals as goal

pub returns : goal.returns
unfolding words
returns c = puts_more c.text.ensures (puts_more c.number.ensures (puts_more c.byte.ensures (puts_more c.text-2.ensures (puts_more c.number-2.ensures c.byte-2.ensures))))
